-- What one side of PAP or CHAP has seen and answered, by looking back: the newest call comes first.
use Rattle.std.specs.Prelude.{ℕ, ◌+◌, ◌&&◌, nat_le, Bool, true, false, Option, is_some, List, [], ◌∷◌, if◌then◌else◌}
use Rattle.ppp_packet.specs.declared.auth_out.AuthOutcome.{AuthOutcome}
use Rattle.ppp_packet.specs.declared.auth_out.AuthOutcome.TheVariants.{Waiting, Passed, Refused, Unanswered}
use Rattle.ppp_packet.specs.declared.auth_out.AuthOut.{AuthOut}
use Rattle.ppp_packet.specs.declared.packet.Packet.{Packet}
use Rattle.ppp_secrets.specs.SecretLine.{SecretLine}

-- what a packet is heard with: the lines of the secrets, and a name: ours for a judge, the server's for one who proves himself
pub record Against : Type 0 where
  pub lines : List SecretLine
  pub server : List ℕ

-- the authentication begins; a packet is heard; time passes
pub data AuthCall : Type 0 where
  begins : AuthCall
  hears : Packet → Against → AuthCall
  ticks : AuthCall

-- a call with its moment, and what was answered
pub record Answered : Type 0 where
  pub now : ℕ
  pub call : AuthCall
  pub packet : Option Packet
  pub outcome : AuthOutcome

abbrev pub answered : ℕ → AuthCall → AuthOut → Answered
answered now call out = record { now = now; call = call; packet = out.packet; outcome = out.outcome }

-- whether a call hears no packet: what it sends is sent of our own accord
abbrev pub is_own : AuthCall → Bool
is_own begins = true
is_own (hears p a) = false
is_own ticks = true

-- the moments at which our own packet was sent, the last one first
abbrev pub sent_at : List Answered → List ℕ
sent_at [] = []
sent_at (h ∷ past) = if is_own h.call && is_some h.packet then h.now ∷ sent_at past else sent_at past

-- whether 3 seconds have passed since it was sent last (RFC 1334, 2.2.1, and RFC 1994, 4.1, leave the time to the implementation)
abbrev pub is_due_again : ℕ → List ℕ → Bool
is_due_again now [] = false
is_due_again now (last ∷ earlier) = nat_le (last + 3000) now

-- An outcome stays, where there is one.
abbrev pub first_of : AuthOutcome → AuthOutcome → AuthOutcome
first_of Waiting later = later
first_of (Passed name line) later = Passed name line
first_of (Refused name) later = Refused name
first_of (Unanswered times) later = Unanswered times

abbrev pub is_waiting : AuthOutcome → Bool
is_waiting Waiting = true
is_waiting (Passed name line) = false
is_waiting (Refused name) = false
is_waiting (Unanswered times) = false

-- Who proves himself has passed until he is refused: a refusal counts after a pass too. Any other outcome stays.
abbrev pub turned : AuthOutcome → AuthOutcome → AuthOutcome
turned Waiting later = later
turned (Passed name line) Waiting = Passed name line
turned (Passed name line) (Passed other later) = Passed name line
turned (Passed name line) (Refused other) = Refused other
turned (Passed name line) (Unanswered times) = Passed name line
turned (Refused name) later = Refused name
turned (Unanswered times) later = Unanswered times

-- What a packet says counts where our own was sent.
abbrev pub where_sent : List ℕ → AuthOutcome → AuthOutcome
where_sent [] outcome = Waiting
where_sent (last ∷ earlier) outcome = outcome
