-- What is told of a call.
use Rattle.std.proofs.Common.{◌≡◌, List, ◌∷◌, ◌++◌, Option, ap, ap₂, ◌∙◌, ℕ}
use Rattle.ppp_packet.specs.declared.packet.Packet.{Packet}
use Rattle.ppp_auth.specs.declared.out.PhaseOut.{PhaseOut}
use Rattle.ppp_auth.specs.declared.out.PhasePacket.{PhasePacket}
use Rattle.ppp_auth.specs.declared.outcome.Side.{Side}
use Rattle.ppp_auth.specs.Setting.{Setting, PhaseAt}
use Rattle.ppp_auth.specs.Judged.{judge_sends, peer_side}
use Rattle.ppp_auth.specs.Proved.{prover_sends}
use Rattle.ppp_auth.specs.Outcome.{peer_passed}
use Rattle.ppp_auth.specs.Phase.{sent_by, newly, told_at}

abbrev out_of : List PhasePacket → Option (List ℕ) → PhaseOut
out_of packets passed = record { packets = packets; peer_passed = passed }

pub told_by : (s : Setting) (c : PhaseAt) (past : List PhaseAt) (out : PhaseOut) (before : Side) (judged proved : Option Packet) → judged ≡ judge_sends s.peer_proves s c past → proved ≡ prover_sends s.we_prove s c past
    → before ≡ peer_side s.peer_proves s past → out.packets ≡ sent_by s.peer_proves judged ++ sent_by s.we_prove proved
    → out.peer_passed ≡ newly before (peer_passed s.peer_proves s (c ∷ past)) → out ≡ told_at s c past
told_by s c past out before judged proved j p w packets passed =
    ap₂ out_of
    (packets ∙ ap₂ (λ x y. sent_by s.peer_proves x ++ sent_by s.we_prove y) j p)
    (passed ∙ ap (λ b. newly b (peer_passed s.peer_proves s (c ∷ past))) w)
