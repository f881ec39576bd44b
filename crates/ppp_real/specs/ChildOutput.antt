-- What of a child's output waits to be read, and what its calls do to it.
use Rattle.std.specs.Prelude.{ℕ, List, ◌++◌, length, min, nat_eq, Bool, true, false, ◌&&◌, if◌then◌else◌}
use Rattle.ppp_outside.specs.Line.{got_of}
use Rattle.ppp_outside.specs.declared.line_in.LineGot.{LineGot}
use Rattle.ppp_outside.specs.declared.line_in.LineGot.TheVariants as got
use Rattle.ppp_real.specs.declared.child_output.Flow.{Flow}
use Rattle.ppp_real.specs.declared.child_output.Flow.TheVariants.{Flows, Ended, Failed}

-- the octets that wait, whether more may come, and whether a write found too little room
pub record OutputNow : Type 0 where
  pub octets : List ℕ
  pub flow : Flow
  pub is_wanted : Bool

-- how many octets wait at most
abbrev pub most_waiting : ℕ
most_waiting = 65536

-- with these octets more, of a piece that had room or not
abbrev pub with_octets : OutputNow → List ℕ → Bool → OutputNow
with_octets o octets is_short = record o { octets = o.octets ++ octets; is_wanted = is_short }

-- why there is no octet
abbrev pub without_octets : Flow → LineGot
without_octets Flows = got.Quiet
without_octets Ended = got.End
without_octets Failed = got.Failed

-- how a read with so much room is answered
abbrev pub answer_of : OutputNow → ℕ → LineGot
answer_of o room = if nat_eq (length o.octets) 0 then without_octets o.flow else got_of (min (length o.octets) room)

abbrev pub flows : Flow → Bool
flows Flows = true
flows Ended = false
flows Failed = false

-- whether a read has to wait
abbrev pub blocks_reads : OutputNow → Bool
blocks_reads o = nat_eq (length o.octets) 0 && flows o.flow
