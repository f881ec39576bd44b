-- What the packets that a call sends have of the packet that it heard (RFC 1661, sections 5.2 to 5.8).
use Rattle.std.specs.Prelude.{◌≡◌, ℕ, ◌==◌, ◌||◌, Bool, true, List, [], ◌∷◌, take}
use Rattle.ppp_base.specs.declared.code.TheConstants.{CODE_REJECT, CONFIGURE_ACK, CONFIGURE_NAK, CONFIGURE_REJECT, ECHO_REPLY, TERMINATE_ACK}
use Rattle.ppp_packet.specs.declared.packet.Packet.{Packet}
use Rattle.ppp_packet.specs.PacketOf.{laid_packet}

-- the codes of answers
abbrev pub is_answer : ℕ → Bool
is_answer code = code == CONFIGURE_ACK || code == CONFIGURE_NAK || code == CONFIGURE_REJECT || code == TERMINATE_ACK || code == ECHO_REPLY

-- An answer has the identifier of what it answers; an Ack has its data too; and a Code-Reject carries its octets, as many as fit.
pub record Answers (heard sent : Packet) : Type 0 where
  pub id : is_answer sent.code ≡ true → sent.id ≡ heard.id
  pub acked : (sent.code == CONFIGURE_ACK) ≡ true → sent.body ≡ heard.body
  pub rejected : (sent.code == CODE_REJECT) ≡ true → (most : ℕ) × (sent.body ≡ take most (laid_packet heard))

abbrev pub AllAnswer : Packet → List Packet → Type 0
AllAnswer heard [] = Unit {0}
AllAnswer heard (sent ∷ packets) = Answers heard sent × AllAnswer heard packets
