use Rattle.std.proofs.Common.{[], ◌∙◌, refl, ap, sym, subst, Some}
use Rattle.ppp_proving.specs.Calls.{begins}
use Rattle.ppp_auth.specs.Setting.{starts}
use Rattle.ppp_auth.specs.Proved.{ProverStands}
use Rattle.ppp_auth.proofs.ProverLemmas.{pap_begins}
use Rattle.ppp_auth.proofs.proving.ProverPart.begin.Goals as goal

pub returns-in-Some : goal.returns-in-Some
returns-in-Some c s past same stands =
    pap_begins s (record { now = c.args.now; call = starts c.args.secrets.now }) past c.args.secrets.now c.begin-sent.new.self begins c.begin-sent.result refl refl refl
    (subst (λ x. ProverStands s x past) c.in-Unbegun.is stands)
    (sym (c.secret.ensures s same) ∙ c.in-Some.is ∙ ap Some (sym (c.begin-sent.ensures.kept.1 ∙ ap (λ p. p.password) c.new-peer.ensures.new)))
    (c.begin-sent.ensures.kept.0 ∙ ap (λ p. p.name) c.new-peer.ensures.new ∙ c.copy.ensures ∙ sym (ap (λ x. x.user) same))
    (c.begin-sent.ensures.stands [] c.new-peer.ensures.stands)
