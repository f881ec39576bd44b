use Rattle.std.proofs.Common.{◌+◌, List, refl, ap, sym, ◌∙◌, subst}
use Rattle.ppp_hooks.specs.HookMark.{HookMark}
use Rattle.ppp_hooks.specs.HookPast.{IsLawful}
use Rattle.ppp_mark.specs.Scripts.{said_in}
use Rattle.ppp_bundle.proofs.EndFacts.{ran}
use Rattle.ppp_bundle.proofs.scripts.end_script.Goals as goal

pub returns-in-Ok-clause-ran : goal.returns-in-Ok-clause-ran
returns-in-Ok-clause-ran g c =
    let past : List HookMark = said_in c.args.scripts.now.log.past in
    let keeps = c.log-log.ensures.stands.stands.keeps in
    let lawful = subst (λ (p : List HookMark). IsLawful p) c.in-Ok.ensures.said c.in-Ok.ensures.stands.stands.keeps.lawful in
    let running = c.in-Ok.ensures.ok.0 refl in
    ap (λ n. n + 1) keeps.ends ∙ ran past c.args.done.answer c.args.done.number lawful running.number ∙ sym keeps.starts
