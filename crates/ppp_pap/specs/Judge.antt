-- A judge of PAP, by the list of its calls, the newest first (RFC 1334, section 2.2).
use Rattle.std.specs.Prelude.{ℕ, ◌≡◌, ◌==◌, Option, Some, None, is_some, List, [], ◌∷◌, if◌then◌else◌, ⊤}
use Rattle.ppp_packet.specs.declared.packet.Packet.{Packet}
use Rattle.ppp_packet.specs.declared.auth_out.AuthOutcome.{AuthOutcome}
use Rattle.ppp_packet.specs.declared.auth_out.AuthOutcome.TheVariants.{Waiting, Passed, Refused, Unanswered}
use Rattle.ppp_proving.specs.Calls.{Against, AuthCall, begins, hears, ticks, Answered, first_of}
use Rattle.ppp_pap.specs.Packets.{request_of, answer_packet}
use Rattle.ppp_pap.specs.Passes.{passing_line}

-- what a request says of the one who sends it: he passes, or is refused
abbrev pub judged_by : List ℕ → Option ℕ → AuthOutcome
judged_by name None = Refused name
judged_by name (Some number) = Passed name number

abbrev pub judged : Against → Option (List ℕ × List ℕ) → AuthOutcome
judged a None = Waiting
judged a (Some request) = judged_by request.0 (passing_line a request.0 request.1)

-- the request that a packet is
abbrev pub request_in : Packet → Option (List ℕ × List ℕ)
request_in p = if p.code == 1 then request_of p.body else None

abbrev pub said_by : AuthCall → AuthOutcome
said_by begins = Waiting
said_by (hears p a) = judged a (request_in p)
said_by ticks = Waiting

-- The outcome is what the first request says.
abbrev pub outcome_in : List Answered → AuthOutcome
outcome_in [] = Waiting
outcome_in (h ∷ past) = first_of (outcome_in past) (said_by h.call)

-- A request is answered by an Ack where its sender has passed, and by a Nak where he was refused.
abbrev pub verdict_packet : AuthOutcome → ℕ → Option Packet
verdict_packet Waiting id = None
verdict_packet (Passed name line) id = Some (answer_packet 2 id)
verdict_packet (Refused name) id = Some (answer_packet 3 id)
verdict_packet (Unanswered times) id = None

abbrev pub sends : AuthCall → AuthOutcome → Option Packet
sends begins outcome = None
sends (hears p a) outcome = if is_some (request_in p) then verdict_packet outcome p.id else None
sends ticks outcome = None

-- A call's answer, after these calls.
pub record IsLawful (h : Answered) (past : List Answered) : Type 0 where
  pub outcome : h.outcome ≡ outcome_in (h ∷ past)
  pub packet : h.packet ≡ sends h.call (outcome_in (h ∷ past))

abbrev pub AreLawful : List Answered → Type 0
AreLawful [] = ⊤
AreLawful (h ∷ past) = IsLawful h past × AreLawful past

-- The judge stands for these calls.
pub record StandsFor (outcome : AuthOutcome) (past : List Answered) : Type 0 where
  pub lawful : AreLawful past
  pub outcome_is : outcome ≡ outcome_in past
