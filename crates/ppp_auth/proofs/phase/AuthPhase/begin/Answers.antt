use Rattle.std.proofs.Common.{◌∷◌, ◌++◌, ◌∙◌, refl, ap, sym, subst}
use Rattle.ppp_auth.specs.Setting.{PhaseAt, starts}
use Rattle.ppp_auth.specs.Judged.{JudgeStands}
use Rattle.ppp_auth.specs.Outcome.{peer_passed}
use Rattle.ppp_auth.specs.Phase.{setting_of, newly, sent_by}
use Rattle.ppp_auth.proofs.PhaseLemmas.{told_by}
use Rattle.ppp_auth.proofs.phase.AuthPhase.begin.Goals as goal

pub returns-clause-told : goal.returns-clause-told
returns-clause-told c past st =
    let s = setting_of c.args.self.now in
    let at : PhaseAt = record { now = c.args.now; call = starts c.args.secrets.now } in
    let judged = c.begin-judged.ensures s past c.args.secrets.now st.judge in
    let proved = c.begin-proved.ensures s past refl st.prover in
    let stands = subst (λ x. JudgeStands (setting_of x) x.judge (at ∷ past)) (sym c.settle.ensures.kept) judged.stands in
    told_by s at past c.tells.result c.side-before.result c.begin-judged.result c.begin-proved.result judged.sends proved.sends (c.side-before.ensures s past st.judge)
    (c.tells.ensures.packets ∙ ap (λ x. sent_by x.peer_proves c.begin-judged.result ++ sent_by x.we_prove c.begin-proved.result) c.settle.ensures.kept)
    (c.tells.ensures.peer_passed (at ∷ past) stands ∙ ap (λ x. newly c.side-before.result (peer_passed x.peer_proves (setting_of x) (at ∷ past))) c.settle.ensures.kept)
