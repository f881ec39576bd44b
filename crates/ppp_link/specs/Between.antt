-- What an event does to a link's errands where no object comes back with it, and what is so of its dial between two steps.
use Rattle.std.specs.Prelude.{ℕ, ◌-◌, ◌≡◌, Bool, true, false, if◌then◌else◌}
use Rattle.ppp_link_facts.specs.Budget.{SaidLast}
use Rattle.ppp_link_rules.specs.declared.errand.Errand.{Errand}
use Rattle.ppp_link_rules.specs.Dialling.{dial_so_far}
use Rattle.ppp_link_rules.specs.Facts.{is_dialling}
use Rattle.ppp_link_rules.specs.LinkEvent.{Event, Begin, Dialled, Bytes, LineOver, Flushed, Tick, Signal, FromTable, HookOver}
use Rattle.ppp_link_rules.specs.LinkState.{LinkState, control, is_absent, is_out, is_waiting}

-- What the dial answered last is why the link does what it does, and a dial waits or is out only while the link dials.
pub record IsInStep (s : LinkState) : Type 0 where
  pub said : SaidLast (control s).doing (dial_so_far s).last
  pub dials : is_absent s.dial ≡ false → is_dialling (control s).doing ≡ true

-- how many dials were made: one for each session but for one that still waits to be taken
abbrev pub made_by : Errand → ℕ → ℕ
made_by dial session = if is_waiting dial then session - 1 else session

abbrev pub dials_made : LinkState → ℕ
dials_made s = made_by s.dial (control s).session

-- The dial stays in or out, and in step; as many dials were made and have failed; and what waits of the line has waited before.
pub record MovesTo (old new : LinkState) : Type 0 where
  pub step : IsInStep new
  pub out : is_out new.dial ≡ is_out old.dial
  pub made : dials_made new ≡ dials_made old
  pub failed : new.failed_dials ≡ old.failed_dials
  pub reading : is_waiting new.reading ≡ true → is_waiting old.reading ≡ true
  pub writing : is_waiting new.writing ≡ true → is_waiting old.writing ≡ true

abbrev pub Moves : LinkState → LinkState → Type 0
Moves old new = IsInStep old → MovesTo old new

-- the events that no object comes back with
abbrev pub brings_nothing : Event → Bool
brings_nothing Begin = true
brings_nothing (Dialled link session failed came) = false
brings_nothing (Bytes link session offset octets) = true
brings_nothing (LineOver link session how) = false
brings_nothing (Flushed link session how) = false
brings_nothing (Tick now) = true
brings_nothing (Signal word) = true
brings_nothing (FromTable post) = true
brings_nothing (HookOver target job not_started answer) = true
