-- The errands of a link: when each is given, and which one that comes back is the one that is out.
use Rattle.std.specs.Prelude.{ℕ, ◌==◌, ◌&&◌, not, Bool, true, false, Option, None, Some, is_some, List, [], ◌∷◌, take, drop}
use Rattle.ppp_base.specs.declared.hook_target.HookTarget.{HookTarget}
use Rattle.ppp_base.specs.declared.hook_target.HookTarget.TheVariants.{Link, Unit as OfUnit}
use Rattle.ppp_link_rules.specs.declared.errand.Errand.TheVariants.{Out}
use Rattle.ppp_link_rules.specs.declared.limits.TheConstants.{MOST_WRITTEN}
use Rattle.ppp_link_rules.specs.UpValue.{UpValue}
use Rattle.ppp_link_rules.specs.LinkState.{LinkState, control, is_out, is_waiting, wants_line}

-- THE DIAL, where an attempt waits for it
abbrev pub gives_dial : LinkState → Bool
gives_dial s = is_waiting s.dial

abbrev pub with_dial_out : LinkState → LinkState
with_dial_out s = record s { dial = Out }

-- THE READING, where it is in and the line is wanted
abbrev pub gives_reading : LinkState → Bool
gives_reading s = is_waiting s.reading && wants_line s

abbrev pub with_reading_out : LinkState → LinkState
with_reading_out s = record s { reading = Out }

-- THE WRITING, where it is in and octets wait. It carries the first 1,024 of them, or all.
abbrev pub is_none_waiting : List ℕ → Bool
is_none_waiting [] = true
is_none_waiting (octet ∷ octets) = false

abbrev pub gives_writing : LinkState → Bool
gives_writing s = is_waiting s.writing && not (is_none_waiting s.out.waiting)

abbrev pub octets_given : LinkState → List ℕ
octets_given s = take MOST_WRITTEN s.out.waiting

abbrev pub with_writing_out : LinkState → LinkState
with_writing_out s = record s { writing = Out; out = record s.out { waiting = drop MOST_WRITTEN s.out.waiting } }

-- THE JOB, where a script was started and isn't out
abbrev pub is_running : LinkState → Bool
is_running s = is_some (control s).running

abbrev pub gives_job : LinkState → Bool
gives_job s = is_running s && not s.job_out

abbrev pub with_job_out : LinkState → LinkState
with_job_out s = record s { job_out = true }

-- THE POSTS to the table, the oldest first
abbrev pub first_of : List UpValue → Option UpValue
first_of [] = None
first_of (post ∷ posts) = Some post

abbrev pub with_post_taken : LinkState → LinkState
with_post_taken s = record s { up = record s.up { waiting = drop 1 s.up.waiting } }

-- WHICH ONE IS OUT

abbrev pub is_session : ℕ → ℕ → LinkState → Bool
is_session link session s = link == s.id && session == (control s).session

abbrev pub is_dial_out : ℕ → ℕ → ℕ → LinkState → Bool
is_dial_out link session failed s = is_out s.dial && (is_session link session s && failed == s.failed_dials)

abbrev pub is_reading_out : ℕ → ℕ → LinkState → Bool
is_reading_out link session s = is_out s.reading && is_session link session s

abbrev pub is_writing_out : ℕ → ℕ → LinkState → Bool
is_writing_out link session s = is_out s.writing && is_session link session s

-- The octets that come next are those behind the ones that were taken in this session.
abbrev pub is_next : ℕ → ℕ → ℕ → LinkState → Bool
is_next link session offset s = is_session link session s && offset == s.taken

-- The job that was taken and runs, behind so many that weren't started.
abbrev pub is_target : HookTarget → ℕ → Bool
is_target (Link link) id = link == id
is_target (OfUnit unit) id = false

abbrev pub is_job_out : HookTarget → ℕ → ℕ → LinkState → Bool
is_job_out target job not_started s = s.job_out && (is_target target s.id && (job == s.scripts.starts && not_started == s.scripts.not_started))
