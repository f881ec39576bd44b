-- What a clause sees of the two halves of a packet socket, and what a call does to them.
use Rattle.std.specs.Prelude.{◌≡◌, ℕ, ◌<◌, Bool, true, false, List, [], ◌∷◌, length, Option}
use Rattle.ppp_outside.specs.Contents.{GrowsBy, HasNothing, LosesFront}
use Rattle.ppp_outside.specs.Counts.{CountsFault, counted, raised}
use Rattle.ppp_outside.specs.declared.iface.UnitDatagram.{UnitDatagram}
use Rattle.ppp_outside.specs.declared.iface.IfaceGot.{IfaceGot}
use Rattle.ppp_outside.specs.declared.iface.IfaceGot.TheVariants as got
use Rattle.ppp_outside.specs.declared.iface.Gave.{Gave}
use Rattle.ppp_outside.specs.declared.iface.Gave.TheVariants as gave

-- the packets that are left, where they are told; how many it has given; how often it has failed
pub record IfaceInState : Type 0 where
  pub left : Option (List UnitDatagram)
  pub packets : ℕ
  pub faults : ℕ

abbrev pub failed : IfaceGot → Bool
failed (got.Packet unit) = false
failed got.Quiet = false
failed got.Failed = true

abbrev pub is_packet : IfaceGot → Bool
is_packet (got.Packet unit) = true
is_packet got.Quiet = false
is_packet got.Failed = false

-- the packet that a call gave, whose datagram stands in its buffer
abbrev pub packet_given : IfaceGot → List ℕ → List UnitDatagram
packet_given (got.Packet unit) buf = record { unit = unit; datagram = buf } ∷ []
packet_given got.Quiet buf = []
packet_given got.Failed buf = []

-- A packet has at least one octet.
abbrev pub HasOctets : IfaceGot → List ℕ → Type 0
HasOctets (got.Packet unit) buf = 0 < length buf
HasOctets got.Quiet buf = Unit {0}
HasOctets got.Failed buf = Unit {0}

-- One call, after which the buffer is `buf`.
pub record TakesPacket (old new : IfaceInState) (answer : IfaceGot) (buf : List ℕ) : Type 0 where
  pub octets : HasOctets answer buf
  pub left : LosesFront (packet_given answer buf) old.left new.left
  pub packets : new.packets ≡ counted (is_packet answer) old.packets
  pub faults : CountsFault (failed answer) old.faults new.faults

-- A reading half that was just made: its counts are 0.
pub record IsNewIfaceIn (input : IfaceInState) : Type 0 where
  pub packets : input.packets ≡ 0
  pub faults : input.faults ≡ 0

-- the packets that were given to it, the oldest first, where they are told; how many calls there were; how often it has
-- failed
pub record IfaceOutState : Type 0 where
  pub written : Option (List UnitDatagram)
  pub tries : ℕ
  pub faults : ℕ

abbrev pub give_failed : Gave → Bool
give_failed gave.Gave = false
give_failed gave.Failed = true

-- what a call adds to what was written
abbrev pub written_by : Gave → ℕ → List ℕ → List UnitDatagram
written_by gave.Gave unit datagram = record { unit = unit; datagram = datagram } ∷ []
written_by gave.Failed unit datagram = []

-- One call with this datagram for this unit.
pub record GivesPacket (old new : IfaceOutState) (unit : ℕ) (datagram : List ℕ) (answer : Gave) : Type 0 where
  pub written : GrowsBy (written_by answer unit datagram) old.written new.written
  pub tries : new.tries ≡ raised old.tries 1
  pub faults : CountsFault (give_failed answer) old.faults new.faults

-- A writing half that was just made: its counts are 0, and where it tells what was written, that is nothing.
pub record IsNewIfaceOut (output : IfaceOutState) : Type 0 where
  pub written : HasNothing output.written
  pub tries : output.tries ≡ 0
  pub faults : output.faults ≡ 0
