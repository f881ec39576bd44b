-- What the layers above keep of a link: how many signals it marked, and its time; and what is its own for good.
use Rattle.std.specs.Prelude.{ℕ, ◌+◌, ◌≡◌, ◌≤◌, max, min, List}
use Rattle.ppp_mark.specs.declared.mark.Mark.{Mark}
use Rattle.ppp_mark.specs.declared.kind.TheConstants.{SIGNAL}
use Rattle.ppp_link_rules.specs.declared.limits.TheConstants.{MOST_TIME}
use Rattle.ppp_link_rules.specs.LinkEvent.{Event, Tick, Signal}
use Rattle.ppp_link_rules.specs.LinkState.{LinkState}
use Rattle.ppp_link_rules.specs.Marks.{count_in}

abbrev pub signals_in : List Mark → ℕ
signals_in past = count_in 0 SIGNAL past

-- how many signals an event is
abbrev pub most_signals : Event → ℕ
most_signals (Signal word) = 1
most_signals _ = 0

-- the time: the greatest tick
abbrev pub time_after : Event → ℕ → ℕ
time_after (Tick now) time = max time (min now MOST_TIME)
time_after _ time = time

-- A signal adds one mark of its kind at most, a tick raises the time, and no other event does either. Nothing changes what is the link's own for good.
pub record CountsKept (event : Event) (old new : LinkState) : Type 0 where
  pub few : signals_in new.log.past ≤ signals_in old.log.past + most_signals event
  pub longer : signals_in old.log.past ≤ signals_in new.log.past
  pub time : new.time ≡ time_after event old.time
  pub id : new.id ≡ old.id
  pub config : new.config ≡ old.config
  pub wish : new.wish ≡ old.wish
  pub secrets : new.secrets ≡ old.secrets
  pub limit : new.log.limit ≡ old.log.limit
