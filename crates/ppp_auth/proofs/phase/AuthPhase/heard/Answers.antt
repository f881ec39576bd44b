use Rattle.std.proofs.Common.{◌∷◌, ◌++◌, ◌∙◌, true, refl, is_some, ◌≡◌, ap, sym, subst, arith}
use Rattle.ppp_auth.specs.Setting.{PhaseAt, takes, begun_at}
use Rattle.ppp_auth.specs.Judged.{JudgeStands}
use Rattle.ppp_auth.specs.Outcome.{peer_passed}
use Rattle.ppp_auth.specs.Phase.{setting_of, newly, sent_by}
use Rattle.ppp_auth.proofs.PhaseLemmas.{told_by}
use Rattle.ppp_auth.proofs.phase.AuthPhase.heard.Goals as goal

pub returns-clause-told : goal.returns-clause-told
returns-clause-told c past st =
    let s = setting_of c.args.self.now in
    let at : PhaseAt = record { now = c.args.now; call = takes c.args.protocol c.args.packet.now c.args.secrets.now } in
    let begun : is_some (begun_at past) ≡ true = grind arith in
    let judged = c.heard-judged.ensures s past refl begun st.judge in
    let proved = c.heard-proved.ensures s past (sym c.server-server.ensures) begun st.prover in
    let stands = subst (λ x. JudgeStands (setting_of x) x.judge (at ∷ past)) (sym c.settle.ensures.kept) judged.stands in
    told_by s at past c.tells.result c.side-before.result c.heard-judged.result c.heard-proved.result judged.sends proved.sends (c.side-before.ensures s past st.judge)
    (c.tells.ensures.packets ∙ ap (λ x. sent_by x.peer_proves c.heard-judged.result ++ sent_by x.we_prove c.heard-proved.result) c.settle.ensures.kept)
    (c.tells.ensures.peer_passed (at ∷ past) stands ∙ ap (λ x. newly c.side-before.result (peer_passed x.peer_proves (setting_of x) (at ∷ past))) c.settle.ensures.kept)
