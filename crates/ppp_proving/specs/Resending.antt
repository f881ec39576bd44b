-- A packet that is sent again: by the moments at which it was sent, the last one first.
use Rattle.std.specs.Prelude.{ℕ, nat_lt, List, [], ◌∷◌, length, if◌then◌else◌, Option, Some, None}
use Rattle.ppp_packet.specs.declared.packet.Packet.{Packet}
use Rattle.ppp_packet.specs.declared.auth_out.AuthOutcome.{AuthOutcome}
use Rattle.ppp_packet.specs.declared.auth_out.AuthOutcome.TheVariants.{Waiting, Unanswered}
use Rattle.ppp_proving.specs.declared.resending.Again.{Again}
use Rattle.ppp_proving.specs.declared.resending.Again.TheVariants.{Nothing, Send, GiveUp}
use Rattle.ppp_proving.specs.Calls.{AuthCall, begins, hears, ticks, Answered, is_due_again, is_waiting, sent_at}

-- what is due at a moment: nothing before 3 seconds have passed since the last sending; then the packet again, up to ten times in all
abbrev pub again_at : ℕ → List ℕ → Again
again_at now sent = if is_due_again now sent then (if nat_lt (length sent) 10 then Send else GiveUp) else Nothing

-- the last moment, 0 where there is none
abbrev pub last_of : List ℕ → ℕ
last_of [] = 0
last_of (last ∷ earlier) = last

-- how often it was sent and when last
pub record Sendings : Type 0 where
  pub count : ℕ
  pub last : ℕ

abbrev pub sendings_of : List ℕ → Sendings
sendings_of sent = record { count = length sent; last = last_of sent }

-- Given up, it was sent ten times.
abbrev pub unanswered : Again → AuthOutcome
unanswered Nothing = Waiting
unanswered Send = Waiting
unanswered GiveUp = Unanswered 10

-- It is sent as the authentication begins, once.
abbrev pub first_time : List ℕ → Packet → Option Packet
first_time [] own = Some own
first_time (last ∷ earlier) own = None

-- and again where that is due
abbrev pub again : Again → Packet → Option Packet
again Nothing own = None
again Send own = Some own
again GiveUp own = None

-- What is sent where no packet was heard: this one as the authentication begins, and again while there is no outcome.
abbrev pub own_sent : Packet → AuthOutcome → List Answered → ℕ → AuthCall → Option Packet
own_sent own outcome past now begins = first_time (sent_at past) own
own_sent own outcome past now (hears p a) = None
own_sent own outcome past now ticks = if is_waiting outcome then again (again_at now (sent_at past)) own else None
