-- The control part of a link, read off its log alone.
use Rattle.std.specs.Prelude.{ℕ, ◌==◌, Bool, if◌then◌else◌, Option, None, Some, List}
use Rattle.ppp_hooks.specs.HookPast.{last_in, open_in}
use Rattle.ppp_mark.specs.declared.mark.Mark.{Mark}
use Rattle.ppp_mark.specs.declared.kind.TheConstants.{ATTEMPT, LCP_OPEN, ASKED, START, ENDED}
use Rattle.ppp_mark.specs.Scripts.{said_in}
use Rattle.ppp_link_rules.specs.declared.cause.Cause.{Cause}
use Rattle.ppp_link_rules.specs.Before.{Before}
use Rattle.ppp_link_rules.specs.Marks.{Doing, cause_in, count_in, doing_in, failures_in, lcp_open_in, live_in, since_in, stay_in, stopped_in, unit_in, was_live_in}

pub record Control : Type 0 where
  -- the number of attempts, which is that of the present session, and the failures in a row
  pub session : ℕ
  pub failures : ℕ
  pub doing : Doing
  pub stopped : Bool
  -- LCP's openings, whether it is in Opened, and the opening of authentication that is open
  pub openings : ℕ
  pub lcp_open : Bool
  pub auth_open : Option ℕ
  -- the stays, the present one, its unit, and whether it is live
  pub stays : ℕ
  pub stay : Option ℕ
  pub unit : Option ℕ
  pub live : Bool
  -- of the session: its cause, whether it was live, its marks
  pub cause : Option Cause
  pub was_live : Bool
  pub since : ℕ
  -- of scripts: the last start, the job that runs, starts and ends
  pub last_start : Option (Bool × ℕ)
  pub running : Option ℕ
  pub starts : ℕ
  pub ends : ℕ

abbrev pub running_by : ℕ → ℕ → Option ℕ
running_by starts ends = if ends == starts then None else Some starts

abbrev pub Replay : Before → List Mark → Control
Replay before past = record {
  session = count_in before.sessions ATTEMPT past;
  failures = failures_in before.failures past;
  doing = doing_in past;
  stopped = stopped_in past;
  openings = count_in before.openings LCP_OPEN past;
  lcp_open = lcp_open_in past;
  auth_open = open_in (said_in past);
  stays = count_in before.stays ASKED past;
  stay = stay_in past;
  unit = unit_in past;
  live = live_in past;
  cause = cause_in past;
  was_live = was_live_in past;
  since = since_in past;
  last_start = last_in (said_in past);
  running = running_by (count_in before.starts START past) (count_in before.starts ENDED past);
  starts = count_in before.starts START past;
  ends = count_in before.starts ENDED past;
}
