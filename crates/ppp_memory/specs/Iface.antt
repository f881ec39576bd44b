-- What contracts see of the two halves of a packet socket in memory.
use Rattle.std.specs.Prelude.{ℕ, List, [], ◌∷◌, ◌++◌, Option, Some, None, length, drop, filter_map, nat_lt, nat_le, not, ◌&&◌, ◌||◌, if◌then◌else◌}
use Rattle.ppp_outside.specs.Calls.{is_listed}
use Rattle.ppp_outside.specs.Counts.{counted, raised}
use Rattle.ppp_outside.specs.Iface.{IfaceInState, IfaceOutState, failed, give_failed, is_packet, written_by}
use Rattle.ppp_outside.specs.Messages.{packet_of}
use Rattle.ppp_outside.specs.declared.iface.UnitDatagram.{UnitDatagram}
use Rattle.ppp_outside.specs.declared.iface.IfaceGot.{IfaceGot}
use Rattle.ppp_outside.specs.declared.iface.IfaceGot.TheVariants as got
use Rattle.ppp_outside.specs.declared.iface.Gave.{Gave}
use Rattle.ppp_outside.specs.declared.iface.Gave.TheVariants as gave

-- the messages that are left, which calls are to fail, and the counts
pub record IfaceInInMemory : Type 0 where
  pub messages : List (List ℕ)
  pub failing : List ℕ
  pub calls : ℕ
  pub packets : ℕ
  pub faults : ℕ

-- it tells the packets among the messages that are left
abbrev pub state_of : IfaceInInMemory → IfaceInState
state_of s = record { left = Some (filter_map packet_of s.messages); packets = s.packets; faults = s.faults }

-- the packet of the first of the messages
abbrev pub first_packet : List (List ℕ) → Option UnitDatagram
first_packet [] = None
first_packet (message ∷ rest) = packet_of message

-- a packet, and quiet where there is none
abbrev pub packet_or_quiet : Option UnitDatagram → IfaceGot
packet_or_quiet (Some packet) = got.Packet packet.unit
packet_or_quiet None = got.Quiet

-- what the next call answers
abbrev pub answer_of : IfaceInInMemory → IfaceGot
answer_of s = if is_listed s.calls s.failing then got.Failed else packet_or_quiet (first_packet s.messages)

-- what stands in the buffer after a call
abbrev pub buffer_or : List ℕ → Option UnitDatagram → List ℕ
buffer_or buf (Some packet) = packet.datagram
buffer_or buf None = buf

abbrev pub buffer_after : IfaceInInMemory → List ℕ → List ℕ
buffer_after s buf = if is_listed s.calls s.failing then buf else buffer_or buf (first_packet s.messages)

-- after a call with this answer
abbrev pub after_take : IfaceInInMemory → IfaceGot → IfaceInInMemory
after_take s answer = record s {
  messages = if failed answer then s.messages else drop 1 s.messages;
  calls = raised s.calls 1;
  packets = counted (is_packet answer) s.packets;
  faults = counted (failed answer) s.faults;
}

-- what was given and for how many packets there is room, which calls are to fail, and the counts
pub record IfaceOutInMemory : Type 0 where
  pub written : List UnitDatagram
  pub room : ℕ
  pub failing : List ℕ
  pub tries : ℕ
  pub faults : ℕ

-- it tells what was given
abbrev pub out_state_of : IfaceOutInMemory → IfaceOutState
out_state_of s = record { written = Some s.written; tries = s.tries; faults = s.faults }

-- what the next call answers: it fails where it is to fail or the record is full
abbrev pub out_answer_of : IfaceOutInMemory → Gave
out_answer_of s = if is_listed s.tries s.failing || not (nat_lt (length s.written) s.room) then gave.Failed else gave.Gave

-- after a call with this datagram for this unit, and this answer
abbrev pub after_give : IfaceOutInMemory → ℕ → List ℕ → Gave → IfaceOutInMemory
after_give s unit datagram answer = record s {
  written = s.written ++ written_by answer unit datagram;
  tries = raised s.tries 1;
  faults = counted (give_failed answer) s.faults;
}
