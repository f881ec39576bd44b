-- One who proves himself by PAP, by the list of his calls, the newest first (RFC 1334, section 2.2).
use Rattle.std.specs.Prelude.{ℕ, ◌≡◌, Option, List, [], ◌∷◌, if◌then◌else◌, ⊤}
use Rattle.ppp_packet.specs.declared.packet.Packet.{Packet}
use Rattle.ppp_packet.specs.declared.auth_out.AuthOutcome.{AuthOutcome}
use Rattle.ppp_packet.specs.declared.auth_out.AuthOutcome.TheVariants.{Waiting, Passed, Refused}
use Rattle.ppp_proving.specs.Calls.{AuthCall, begins, hears, ticks, Answered, sent_at, turned, where_sent}
use Rattle.ppp_proving.specs.Resending.{Sendings, again_at, own_sent, sendings_of, unanswered}
use Rattle.ppp_pap.specs.Packets.{request_packet, is_answer}

-- an Ack and a Nak of our request say that we passed, and that we were refused
abbrev pub answer_says : List ℕ → Packet → AuthOutcome
answer_says name p = if is_answer 2 p then Passed name 0 else if is_answer 3 p then Refused name else Waiting

abbrev pub said_by : List ℕ → List ℕ → ℕ → AuthCall → AuthOutcome
said_by name sent now begins = Waiting
said_by name sent now (hears p a) = where_sent sent (answer_says name p)
said_by name sent now ticks = unanswered (again_at now sent)

-- The outcome: a Nak counts after an Ack too.
abbrev pub outcome_in : List ℕ → List Answered → AuthOutcome
outcome_in name [] = Waiting
outcome_in name (h ∷ past) = turned (outcome_in name past) (said_by name (sent_at past) h.now h.call)

-- The request goes out as the authentication begins, and again while there is no outcome.
abbrev pub sends : List ℕ → List ℕ → List Answered → ℕ → AuthCall → Option Packet
sends name password past now call = own_sent (request_packet name password) (outcome_in name past) past now call

-- A call's answer, after these calls.
pub record IsLawful (name password : List ℕ) (h : Answered) (past : List Answered) : Type 0 where
  pub outcome : h.outcome ≡ outcome_in name (h ∷ past)
  pub packet : h.packet ≡ sends name password past h.now h.call

abbrev pub AreLawful : List ℕ → List ℕ → List Answered → Type 0
AreLawful name password [] = ⊤
AreLawful name password (h ∷ past) = IsLawful name password h past × AreLawful name password past

-- what contracts see of one who proves himself
pub record PeerState : Type 0 where
  pub name : List ℕ
  pub password : List ℕ
  pub own : Sendings
  pub outcome : AuthOutcome

-- He stands for these calls.
pub record StandsFor (peer : PeerState) (past : List Answered) : Type 0 where
  pub lawful : AreLawful peer.name peer.password past
  pub own_is : peer.own ≡ sendings_of (sent_at past)
  pub outcome_is : peer.outcome ≡ outcome_in peer.name past
