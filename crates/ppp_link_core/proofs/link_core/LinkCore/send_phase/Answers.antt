use Rattle.std.proofs.Common.{◌≡◌, ◌+◌, ◌∷◌, ◌∙◌, suc, ap, refl, drop, arith}
use Rattle.std.proofs.Math.Seq.{drop-cons}
use Rattle.ppp_packet.specs.PacketOf.{laid_packet}
use Rattle.ppp_link_rules.specs.Sending.{frame_sent, phase_sent}
use Rattle.ppp_link_core.proofs.SendFacts.{none_sent, one_sent, rest_on}
use Rattle.ppp_link_core.proofs.link_core.LinkCore.send_phase.Goals as goal

pub loop-packet-init : goal.loop-packet-init
loop-packet-init g c = record { sent = none_sent _ _; rest = refl; lives = c.requires.lives }

pub loop-packet-preserved : goal.loop-packet-preserved
loop-packet-preserved g c =
    let i = c.loop-packet.packet-index in
    let all = c.as_slice-packets.result.now in
    let more : suc i ≡ i + 1 = omega arith in
    let left : drop i all ≡ c.packet-item.result ∷ drop (i + 1) all =
    drop-cons all i c.packet-item.result c.loop-packet-test.true ∙ rw (more, ← c.packet-item.is) refl in
    record {
      sent = one_sent _ _ _ (frame_sent c.packet-item.result.protocol (laid_packet c.packet-item.result.packet)) _ _ _ c.loop-packet.invariant.sent (λ s. ap (λ ps. phase_sent ps s) left) c.send_packet.ensures.does;
      rest = rest_on c.args.self.now c.loop-packet.invariant.rest c.send_packet.ensures.rest;
      lives = c.send_packet.ensures.lives;
    }
