use Rattle.std.proofs.Common.{◌∷◌, ◌++◌, ◌∙◌, true, is_some, ◌≡◌, ap, sym, subst, arith}
use Rattle.ppp_auth.specs.Setting.{PhaseAt, waits, begun_at, is_late}
use Rattle.ppp_auth.specs.Judged.{JudgeStands}
use Rattle.ppp_auth.specs.Outcome.{peer_passed}
use Rattle.ppp_auth.specs.Phase.{setting_of, newly, sent_by}
use Rattle.ppp_auth.proofs.PhaseLemmas.{told_by}
use Rattle.ppp_auth.proofs.phase.AuthPhase.tick.Goals as goal

pub returns-clause-told : goal.returns-clause-told
returns-clause-told c past st =
    let s = setting_of c.args.self.now in
    let at : PhaseAt = record { now = c.args.now; call = waits } in
    let begun : is_some (begun_at past) ≡ true = grind arith in
    let late : c.is_late-late.result ≡ is_late waits (begun_at past) c.args.now = c.is_late-late.ensures ∙ ap (λ b. is_late waits b c.args.now) (sym c.in-Some.is ∙ st.began) in
    let judged = c.tick-judged.ensures s past late begun st.judge in
    let proved = c.tick-proved.ensures s past late begun st.prover in
    let stands = subst (λ x. JudgeStands (setting_of x) x.judge (at ∷ past)) (sym c.settle.ensures.kept) judged.stands in
    told_by s at past c.tells.result c.side-before.result c.tick-judged.result c.tick-proved.result judged.sends proved.sends (c.side-before.ensures s past st.judge)
    (c.tells.ensures.packets ∙ ap (λ x. sent_by x.peer_proves c.tick-judged.result ++ sent_by x.we_prove c.tick-proved.result) c.settle.ensures.kept)
    (c.tells.ensures.peer_passed (at ∷ past) stands ∙ ap (λ x. newly c.side-before.result (peer_passed x.peer_proves (setting_of x) (at ∷ past))) c.settle.ensures.kept)
