-- Why no mark of a link ever meets a full log. An attempt is begun only where 1,024 marks are free. While nothing has ended its session, the session's marks are counted and few; once
-- something has, LCP is shut, the chat is over, authentication and the stay are closed, and just what is owed can still be marked.
use Rattle.std.specs.Prelude.{ℕ, ◌≡◌, ◌+◌, ◌<◌, ◌≤◌, ◌==◌, Bool, true, false, if◌then◌else◌, Option, None, Some, is_some, List, length}
use Rattle.ppp_dial.specs.declared.now.DialNow.{DialNow}
use Rattle.ppp_dial.specs.LookingBack.{is_nothing, was_begun, hold_since, was_to_wait, status_of}
use Rattle.ppp_fsm.specs.Moving.{is_shut}
use Rattle.ppp_hooks.specs.HookMark.{HookMark}
use Rattle.ppp_hooks.specs.HookPast.{ends_in, last_in, starts_in}
use Rattle.ppp_mark.specs.declared.mark.Mark.{Mark}
use Rattle.ppp_mark.specs.Log.{room_of}
use Rattle.ppp_mark.specs.Scripts.{said_in}
use Rattle.ppp_link_rules.specs.declared.limits.TheConstants.{MOST_MARKS}
use Rattle.ppp_link_rules.specs.Dialling.{dial_so_far}
use Rattle.ppp_link_rules.specs.LinkState.{LinkState, Listener, Nobody, Chatting, Framing, control, is_absent, is_busy, is_open, lcp_state}
use Rattle.ppp_link_rules.specs.Marks.{Doing, New, Dials, HasLine, IsOver, Holds, Waits, HasFinished, doing_in, stopped_in}

-- WHAT IS OWED: how many marks can still come without a new attempt, while nothing is marked freely.

-- A script that runs ends, and behind an up its down is started and ends.
abbrev pub script_owed : Option (Bool × ℕ) → ℕ
script_owed None = 1
script_owed (Some start) = if start.0 then 3 else 1

abbrev pub scripts_owed : List HookMark → ℕ
scripts_owed said = if ends_in said == starts_in said then 0 else script_owed (last_in said)

-- A session is over; then there is a hold, the hang-up that ends it, a wait, and the end of the link. Whatever the link does, of these just the later ones are left.
abbrev pub doing_owed : Doing → ℕ
doing_owed New = 2
doing_owed Dials = 5
doing_owed HasLine = 5
doing_owed IsOver = 4
doing_owed (Holds until) = 3
doing_owed Waits = 1
doing_owed (HasFinished status) = 0

-- a signal to stop, unless one came
abbrev pub stop_owed : Bool → ℕ
stop_owed stopped = if stopped then 0 else 1

abbrev pub owed_in : List Mark → ℕ
owed_in past = scripts_owed (said_in past) + (doing_owed (doing_in past) + stop_owed (stopped_in past))

abbrev pub owed : LinkState → ℕ
owed s = owed_in s.log.past

-- THE BUDGET

-- Of so many marks the log was free at the attempt, or as it was made. While nothing has ended the session, fewer marks than `most` stand since then; else these and what is owed are
-- 960 at most.
pub record Budget (most : ℕ) (s : LinkState) : Type 0 where
  pub free : length s.log.past + 1024 ≤ s.log.limit + (control s).since
  pub few : is_busy s ≡ true → (control s).since < most
  pub owes : is_busy s ≡ false → (control s).since + owed s ≤ 960

-- WHAT STANDS BESIDE IT

abbrev pub is_talking : Listener → Bool
is_talking Nobody = false
is_talking (Chatting calls) = true
is_talking Framing = false

-- What the link does is what the dial said last.
abbrev pub SaidLast : Doing → DialNow × ℕ → Type 0
SaidLast New last = is_nothing last.0 ≡ true
SaidLast Dials last = was_begun last ≡ true
SaidLast HasLine last = was_begun last ≡ true
SaidLast IsOver last = was_begun last ≡ true
SaidLast (Holds until) last = hold_since last ≡ Some until
SaidLast Waits last = was_to_wait last ≡ true
SaidLast (HasFinished status) last = status_of last ≡ Some status

-- Outside Opened there is no phase of authentication, no stay, and nothing is open of authentication. Where no session lasts, or something has ended it, LCP is shut: Initial, Closed or
-- Closing, and no chat goes on. The marks tell whether LCP is in Opened. One script runs at most, and a job that was taken runs. While a dial is out or waits there is no LCP part.
pub record Stands (s : LinkState) : Type 0 where
  pub phase : is_open s ≡ false → is_some s.auth ≡ false
  pub stay : is_open s ≡ false → is_some (control s).stay ≡ false
  pub auth : is_open s ≡ false → is_some (control s).auth_open ≡ false
  pub shut : is_busy s ≡ false → is_shut (lcp_state s) ≡ true
  pub silent : is_busy s ≡ false → is_talking s.listener ≡ false
  pub ends : ends_in (said_in s.log.past) ≤ starts_in (said_in s.log.past)
  pub one : starts_in (said_in s.log.past) ≤ ends_in (said_in s.log.past) + 1
  pub job : s.job_out ≡ true → (ends_in (said_in s.log.past) == starts_in (said_in s.log.past)) ≡ false
  pub dial : is_absent s.dial ≡ false → is_some s.lcp ≡ false
  pub said : SaidLast (control s).doing (dial_so_far s).last
  pub lcp : (control s).lcp_open ≡ is_open s

-- Between two octets: those of a chat's end add at most 26 marks to a session that has fewer than 900.
pub record BetweenOctets (s : LinkState) : Type 0 where
  pub stands : Stands s
  pub budget : Budget 926 s
  pub talks : is_talking s.listener ≡ true → Budget MOST_MARKS s

-- Between two steps.
pub record BetweenSteps (s : LinkState) : Type 0 where
  pub stands : Stands s
  pub budget : Budget MOST_MARKS s

-- What follows: whatever comes next, a step or an octet, has room for its marks, and behind it what is owed has too.
pub record HasRoom (s : LinkState) : Type 0 where
  pub room : 64 + owed s ≤ room_of s.log
  pub attempt : 1024 ≤ room_of s.log + (control s).since
