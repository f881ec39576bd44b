-- A judge of CHAP, by the list of its calls, the newest first (RFC 1994, section 4).
use Rattle.std.specs.Prelude.{ℕ, ◌≡◌, ◌==◌, ◌&&◌, Option, Some, None, is_some, List, [], ◌∷◌, if◌then◌else◌, ⊤}
use Rattle.ppp_packet.specs.declared.packet.Packet.{Packet}
use Rattle.ppp_packet.specs.declared.auth_out.AuthOutcome.{AuthOutcome}
use Rattle.ppp_packet.specs.declared.auth_out.AuthOutcome.TheVariants.{Waiting, Passed, Refused, Unanswered}
use Rattle.ppp_proving.specs.Calls.{Against, AuthCall, begins, hears, ticks, Answered, sent_at, first_of, where_sent}
use Rattle.ppp_proving.specs.Resending.{Sendings, again_at, own_sent, sendings_of, unanswered}
use Rattle.ppp_chap.specs.Packets.{challenge_packet, result_packet, valued_of}
use Rattle.ppp_chap.specs.Passes.{passing_line}

-- the value and the name of a response to our challenge, whose identifier is 1; a packet of another identifier is none
abbrev pub response_in : Packet → Option (List ℕ × List ℕ)
response_in p = if p.code == 2 && p.id == 1 then valued_of p.body else None

-- what a response says of the one who sends it: he passes, or is refused
abbrev pub judged_by : List ℕ → Option ℕ → AuthOutcome
judged_by name None = Refused name
judged_by name (Some number) = Passed name number

abbrev pub judged : List ℕ → Against → Option (List ℕ × List ℕ) → AuthOutcome
judged challenge a None = Waiting
judged challenge a (Some response) = judged_by response.1 (passing_line a challenge response.1 response.0)

abbrev pub said_by : List ℕ → List ℕ → ℕ → AuthCall → AuthOutcome
said_by challenge sent now begins = Waiting
said_by challenge sent now (hears p a) = where_sent sent (judged challenge a (response_in p))
said_by challenge sent now ticks = unanswered (again_at now sent)

-- The outcome is what the first response to our challenge says, or that none came to the tenth challenge.
abbrev pub outcome_in : List ℕ → List Answered → AuthOutcome
outcome_in challenge [] = Waiting
outcome_in challenge (h ∷ past) = first_of (outcome_in challenge past) (said_by challenge (sent_at past) h.now h.call)

-- A response is answered by a Success where its sender has passed, and by a Failure where he was refused.
abbrev pub verdict_packet : AuthOutcome → Option Packet
verdict_packet Waiting = None
verdict_packet (Passed name line) = Some (result_packet 3 1)
verdict_packet (Refused name) = Some (result_packet 4 1)
verdict_packet (Unanswered times) = None

-- The challenge goes out as the authentication begins, and again while there is no outcome; it is always the same.
abbrev pub sends : List ℕ → List ℕ → List Answered → ℕ → AuthCall → Option Packet
sends name challenge past now begins = own_sent (challenge_packet challenge name) (outcome_in challenge past) past now begins
sends name challenge past now (hears p a) =
    if is_some (response_in p)
    then verdict_packet (first_of (outcome_in challenge past) (said_by challenge (sent_at past) now (hears p a)))
    else None
sends name challenge past now ticks = own_sent (challenge_packet challenge name) (outcome_in challenge past) past now ticks

-- A call's answer, after these calls.
pub record IsLawful (name challenge : List ℕ) (h : Answered) (past : List Answered) : Type 0 where
  pub outcome : h.outcome ≡ outcome_in challenge (h ∷ past)
  pub packet : h.packet ≡ sends name challenge past h.now h.call

abbrev pub AreLawful : List ℕ → List ℕ → List Answered → Type 0
AreLawful name challenge [] = ⊤
AreLawful name challenge (h ∷ past) = IsLawful name challenge h past × AreLawful name challenge past

-- what contracts see of a judge
pub record JudgeState : Type 0 where
  pub name : List ℕ
  pub challenge : List ℕ
  pub own : Sendings
  pub outcome : AuthOutcome

-- It stands for these calls.
pub record StandsFor (judge : JudgeState) (past : List Answered) : Type 0 where
  pub lawful : AreLawful judge.name judge.challenge past
  pub own_is : judge.own ≡ sendings_of (sent_at past)
  pub outcome_is : judge.outcome ≡ outcome_in judge.challenge past
