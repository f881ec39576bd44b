-- What one call of a packet socket in memory does to what it tells.
use Rattle.std.proofs.Common.{ℕ, ◌<◌, List, [], ◌∷◌, length, Option, Some, None, Bool, true, false, ◌&&◌, nat_lt, nat_le, if◌then◌else◌, filter_map, refl, rules}
use Rattle.std.specs.List.{cons_option}
use Rattle.ppp_outside.specs.Calls.{is_listed}
use Rattle.ppp_outside.specs.Counts.{counted}
use Rattle.ppp_outside.specs.Iface.{TakesPacket, failed, is_packet}
use Rattle.ppp_outside.specs.Messages.{IsFilled, packet_of}
use Rattle.ppp_outside.specs.declared.iface.IfaceGot.{IfaceGot}
use Rattle.ppp_outside.specs.declared.iface.IfaceGot.TheVariants as got
use Rattle.ppp_outside.specs.declared.iface.UnitDatagram.{UnitDatagram}
use Rattle.ppp_memory.specs.Iface.{IfaceInInMemory, after_take, answer_of, buffer_after, buffer_or, first_packet, packet_or_quiet, state_of}

filled_if : (unit : ℕ) (octets : List ℕ) (fits : Bool) → IsFilled (if nat_lt unit 16 && (nat_lt 0 (length octets) && fits) then Some (record { unit = unit; datagram = octets }) else None)
filled_if unit [] fits = elim (nat_lt unit 16) as (λ known. IsFilled (if known && (nat_lt 0 0 && fits) then Some (record { unit = unit; datagram = [] }) else None)) [ true ↦ tt | false ↦ tt ]
filled_if unit (octet ∷ rest) fits = elim (nat_lt unit 16 && (nat_lt 0 (length (octet ∷ rest)) && fits)) as (λ known. IsFilled (if known then Some (record { unit = unit; datagram = octet ∷ rest }) else None)) [ true ↦ search rules | false ↦ tt ]

is_filled : (message : List ℕ) → IsFilled (packet_of message)
is_filled [] = tt
is_filled (unit ∷ octets) = filled_if unit octets (nat_le (length octets) 2048)

takes_message : (packet : Option UnitDatagram) (message : List ℕ) (rest : List (List ℕ)) (buf : List ℕ) (packets faults : ℕ) → IsFilled packet → TakesPacket (record { left = Some (cons_option packet (filter_map packet_of rest)); packets = packets; faults = faults }) (record { left = Some (filter_map packet_of (if failed (packet_or_quiet packet) then message ∷ rest else rest)); packets = counted (is_packet (packet_or_quiet packet)) packets; faults = counted (failed (packet_or_quiet packet)) faults }) (packet_or_quiet packet) (buffer_or buf packet)
takes_message None message rest buf packets faults filled = record { octets = tt; left = refl; packets = refl; faults = refl }
takes_message (Some packet) message rest buf packets faults filled = record { octets = filled; left = refl; packets = refl; faults = refl }

takes_next : (messages : List (List ℕ)) (failing : List ℕ) (calls packets faults : ℕ) (buf : List ℕ) → let s : IfaceInInMemory = record { messages = messages; failing = failing; calls = calls; packets = packets; faults = faults } in TakesPacket (state_of s) (state_of (after_take s (packet_or_quiet (first_packet messages)))) (packet_or_quiet (first_packet messages)) (buffer_or buf (first_packet messages))
takes_next [] failing calls packets faults buf = record { octets = tt; left = refl; packets = refl; faults = refl }
takes_next (message ∷ rest) failing calls packets faults buf = takes_message (packet_of message) message rest buf packets faults (is_filled message)

takes_by : (listed : Bool) (s : IfaceInInMemory) (buf : List ℕ) → let answer : IfaceGot = if listed then got.Failed else packet_or_quiet (first_packet s.messages) in TakesPacket (state_of s) (state_of (after_take s answer)) answer (if listed then buf else buffer_or buf (first_packet s.messages))
takes_by true s buf = record { octets = tt; left = refl; packets = refl; faults = search rules }
takes_by false s buf = takes_next s.messages s.failing s.calls s.packets s.faults buf

pub takes : (s : IfaceInInMemory) (buf : List ℕ) → TakesPacket (state_of s) (state_of (after_take s (answer_of s))) (answer_of s) (buffer_after s buf)
takes s buf = takes_by (is_listed s.calls s.failing) s buf
