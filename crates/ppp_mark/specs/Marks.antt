-- A mark of each kind, with the numbers that the table gives it. Each is made at a time, in milliseconds.
use Rattle.std.specs.Prelude.{ℕ, ◌+◌, ◌*◌, Bool, List, [], ◌∷◌, if◌then◌else◌}
use Rattle.ppp_base.specs.declared.posts.CloseCause.{CloseCause}
use Rattle.ppp_base.specs.declared.posts.CloseCause.TheVariants.{Idle, ConnectTime, IpcpFailed, EndedByPeer, TooManyChanges}
use Rattle.ppp_base.specs.declared.posts.Refusal.{Refusal}
use Rattle.ppp_base.specs.declared.signal_word.SignalWord.{SignalWord}
use Rattle.ppp_base.specs.declared.signal_word.SignalWord.TheVariants.{Hup, Int, Term, Usr1, Usr2}
use Rattle.ppp_base.specs.Posts.{cause_number, refusal_number}
use Rattle.ppp_outside.specs.declared.spawner.ScriptEnd.{ScriptEnd}
use Rattle.ppp_outside.specs.declared.spawner.ScriptEnd.TheVariants.{Exit, Killed, NotStarted}
use Rattle.ppp_mark.specs.declared.mark.Mark.{Mark}
use Rattle.ppp_mark.specs.declared.kind.TheConstants.{ATTEMPT, LINE, LCP_OPEN, LCP_CLOSED, AUTH_OPEN, AUTH_CLOSED, START, ENDED, ASKED, LEFT, MEMBER, LIVE, REFUSED, SIGNAL, CAUSE, OVER, HOLD, WAIT, FINISHED, MADE, IN, OUT, IP_OPEN, LOCAL, REMOTE, IP_CLOSED, CLOSE, UNMADE}

abbrev pub mark : ℕ → ℕ → ℕ → ℕ → ℕ → Mark
mark time kind x y z = record { kind = kind; x = x; y = y; z = z; time = time }

abbrev pub attempt_mark : ℕ → ℕ → Mark
attempt_mark time session = mark time ATTEMPT 0 0 session

abbrev pub line_mark : ℕ → ℕ → Mark
line_mark time session = mark time LINE 0 0 session

abbrev pub lcp_open_mark : ℕ → ℕ → Mark
lcp_open_mark time opening = mark time LCP_OPEN 0 0 opening

abbrev pub lcp_closed_mark : ℕ → ℕ → Mark
lcp_closed_mark time opening = mark time LCP_CLOSED 0 0 opening

abbrev pub auth_open_mark : ℕ → ℕ → Mark
auth_open_mark time opening = mark time AUTH_OPEN 0 0 opening

abbrev pub auth_closed_mark : ℕ → ℕ → Mark
auth_closed_mark time opening = mark time AUTH_CLOSED 0 0 opening

-- 1 an up, 2 a down
abbrev pub direction_number : Bool → ℕ
direction_number up = if up then 1 else 2

abbrev pub started_mark : ℕ → Bool → ℕ → Mark
started_mark time up opening = mark time START (direction_number up) 0 opening

-- 0 an exit, 1 killed, 2 not started
abbrev pub end_number : ScriptEnd → ℕ
end_number (Exit status) = 0
end_number Killed = 1
end_number NotStarted = 2

abbrev pub exit_status : ScriptEnd → ℕ
exit_status (Exit status) = status
exit_status Killed = 0
exit_status NotStarted = 0

abbrev pub ended_mark : ℕ → ScriptEnd → ℕ → Mark
ended_mark time answer job = mark time ENDED (end_number answer) (exit_status answer) job

abbrev pub asked_mark : ℕ → ℕ → Mark
asked_mark time stay = mark time ASKED 0 0 stay

abbrev pub left_mark : ℕ → ℕ → Mark
left_mark time stay = mark time LEFT 0 0 stay

abbrev pub member_mark : ℕ → ℕ → ℕ → Mark
member_mark time unit stay = mark time MEMBER unit 0 stay

abbrev pub live_mark : ℕ → ℕ → ℕ → Mark
live_mark time unit stay = mark time LIVE unit 0 stay

abbrev pub refused_mark : ℕ → Refusal → ℕ → Mark
refused_mark time reason stay = mark time REFUSED (refusal_number reason) 0 stay

-- the numbers of the signals
abbrev pub signal_number : SignalWord → ℕ
signal_number Hup = 1
signal_number Int = 2
signal_number Term = 3
signal_number Usr1 = 4
signal_number Usr2 = 5

abbrev pub signal_mark : ℕ → SignalWord → Mark
signal_mark time word = mark time SIGNAL (signal_number word) 0 0

-- The causes of a session's end have numbers from 1 to 16; what y tells is the cause's.
abbrev pub cause_mark : ℕ → ℕ → ℕ → ℕ → Mark
cause_mark time cause detail session = mark time CAUSE cause detail session

abbrev pub over_mark : ℕ → Bool → ℕ → Mark
over_mark time live session = mark time OVER (if live then 1 else 0) 0 session

abbrev pub hold_mark : ℕ → ℕ → Mark
hold_mark time milliseconds = mark time HOLD 0 0 milliseconds

abbrev pub wait_mark : ℕ → Mark
wait_mark time = mark time WAIT 0 0 0

abbrev pub finished_mark : ℕ → ℕ → Mark
finished_mark time status = mark time FINISHED status 0 0

abbrev pub made_mark : ℕ → ℕ → ℕ → Mark
made_mark time maker bundle = mark time MADE maker 0 bundle

abbrev pub in_mark : ℕ → ℕ → ℕ → Mark
in_mark time link stay = mark time IN link 0 stay

abbrev pub out_mark : ℕ → ℕ → ℕ → Mark
out_mark time link stay = mark time OUT link 0 stay

abbrev pub ip_open_mark : ℕ → ℕ → Mark
ip_open_mark time opening = mark time IP_OPEN 0 0 opening

-- an address as a number: its first octet counts most
abbrev pub address_number : List ℕ → ℕ
address_number (a ∷ b ∷ c ∷ d ∷ []) = ((a * 256 + b) * 256 + c) * 256 + d
address_number _ = 0

abbrev pub local_mark : ℕ → List ℕ → Mark
local_mark time address = mark time LOCAL 0 0 (address_number address)

abbrev pub remote_mark : ℕ → List ℕ → Mark
remote_mark time address = mark time REMOTE 0 0 (address_number address)

abbrev pub ip_closed_mark : ℕ → ℕ → Mark
ip_closed_mark time opening = mark time IP_CLOSED 0 0 opening

-- what belongs to the cause of a close: 1 where the peer has ended it by IPCP
abbrev pub close_detail : CloseCause → ℕ
close_detail Idle = 0
close_detail ConnectTime = 0
close_detail IpcpFailed = 0
close_detail EndedByPeer = 1
close_detail TooManyChanges = 0

-- The time that passed is told of the two causes that are about it.
abbrev pub close_elapsed : CloseCause → ℕ → ℕ
close_elapsed Idle elapsed = elapsed
close_elapsed ConnectTime elapsed = elapsed
close_elapsed IpcpFailed elapsed = 0
close_elapsed EndedByPeer elapsed = 0
close_elapsed TooManyChanges elapsed = 0

abbrev pub close_mark : ℕ → CloseCause → ℕ → Mark
close_mark time cause elapsed = mark time CLOSE (cause_number cause) (close_detail cause) (close_elapsed cause elapsed)

abbrev pub unmade_mark : ℕ → ℕ → Mark
unmade_mark time bundle = mark time UNMADE 0 0 bundle
