-- What stays so of a unit from step to step, beside what it answers.
use Rattle.std.specs.Prelude.{ℕ, Bool, ◌+◌, ◌<◌, ◌≤◌, ◌≡◌, ◌^◌, ◌==◌, Option, None, Some, is_some, option_map, IfSome, length, if◌then◌else◌}
use Rattle.ppp_base.specs.declared.hook_target.HookTarget.TheVariants.{Unit as OfUnit}
use Rattle.ppp_hooks.specs.declared.facts.HookFacts.{HookFacts}
use Rattle.ppp_hooks.specs.declared.facts.Start.{Start}
use Rattle.ppp_hooks.specs.HookPast.{open_in}
use Rattle.ppp_mark.specs.Log.{room_of}
use Rattle.ppp_mark.specs.ScriptLog.{ScriptLogState}
use Rattle.ppp_mark.specs.Scripts.{said_in}
use Rattle.ppp_unit_parts.specs.declared.live.Live.{Live}
use Rattle.ppp_unit_parts.specs.Fits.{Fits}
use Rattle.ppp_unit_parts.specs.Member.{stay_of}
use Rattle.ppp_bundle.specs.Replay.{LogSays, bundle_in, since_made, stay_in}
use Rattle.ppp_bundle.specs.State.{UnitState, is_open, members_of}
use Rattle.ppp_unit_parts.specs.Live.{SomeSession}

-- So many marks at most were added, and no bundle was made: each of them is one of those since the last was made.
pub record Adds {S : Type 0} (most : ℕ) (old new : ScriptLogState S) : Type 0 where
  pub target : new.machine.target ≡ old.machine.target
  pub few : length new.log.past ≤ length old.log.past + most
  pub longer : length old.log.past ≤ length new.log.past
  pub limit : new.log.limit ≡ old.log.limit
  pub since : since_made new.log.past + length old.log.past ≡ since_made old.log.past + length new.log.past

-- And no script ended: the spawner is where it was, with the same counts.
pub record Moves {S : Type 0} (most : ℕ) (old new : ScriptLogState S) : Type 0 where
  pub target : new.machine.target ≡ old.machine.target
  pub few : length new.log.past ≤ length old.log.past + most
  pub longer : length old.log.past ≤ length new.log.past
  pub limit : new.log.limit ≡ old.log.limit
  pub since : since_made new.log.past + length old.log.past ≡ since_made old.log.past + length new.log.past
  pub spawner : new.machine.spawner ≡ old.machine.spawner
  pub ends : new.machine.facts.ends ≡ old.machine.facts.ends
  pub not_started : new.machine.facts.not_started ≡ old.machine.facts.not_started

-- what a log says of whether IP is open
abbrev pub is_open_in : {S : Type 0} → ScriptLogState S → Option ℕ
is_open_in s = open_in (said_in s.log.past)

-- The scripts are those of this unit, IP is open exactly while IPCP is in Opened, and of a bundle that lives the marks since it was made are counted.
pub record Agrees {S : Type 0} (u : UnitState S) : Type 0 where
  pub target : u.scripts.machine.target ≡ OfUnit u.unit
  pub opened : is_some (is_open_in u.scripts) ≡ is_open u.live
  pub since : IfSome u.live (λ l. length u.scripts.log.past ≡ l.made_at + since_made u.scripts.log.past)
  pub room : IfSome u.live (λ l. l.made_at + 1024 ≤ u.scripts.log.limit)
  pub fits : IfSome u.live Fits
  pub says : LogSays u.scripts
  pub bundle : option_map (λ (l : Live). l.number) u.live ≡ bundle_in u.scripts.log.past
  pub stays : (link : ℕ) → stay_of link (members_of u.live) ≡ stay_in link u.scripts.log.past
  pub session : IfSome u.live SomeSession
  pub time : u.time ≤ 2 ^ 56

-- The same but for whether IP is open, where IPCP goes from one of Opened and not Opened to the other, or stays.
pub record IsTurning {S : Type 0} (was is : Bool) (u : UnitState S) : Type 0 where
  pub target : u.scripts.machine.target ≡ OfUnit u.unit
  pub opened : is_some (is_open_in u.scripts) ≡ was
  pub is_now : is_open u.live ≡ is
  pub since : IfSome u.live (λ l. length u.scripts.log.past ≡ l.made_at + since_made u.scripts.log.past)
  pub room : IfSome u.live (λ l. l.made_at + 1024 ≤ u.scripts.log.limit)
  pub fits : IfSome u.live Fits
  pub says : LogSays u.scripts
  pub bundle : option_map (λ (l : Live). l.number) u.live ≡ bundle_in u.scripts.log.past
  pub stays : (link : ℕ) → stay_of link (members_of u.live) ≡ stay_in link u.scripts.log.past
  pub session : IfSome u.live SomeSession
  pub time : u.time ≤ 2 ^ 56

-- While a bundle lives the log has so much room.
abbrev pub HasRoom : {S : Type 0} → ℕ → UnitState S → Type 0
HasRoom room u = IfSome u.live (λ l. room ≤ room_of u.scripts.log)

-- The marks that are still owed while no bundle lives: the end of an up and the start and the end of its down, or the end of a down.
abbrev pub owed_by : Option Start → ℕ
owed_by None = 4
owed_by (Some s) = if s.up then 4 else 2

abbrev pub owed : HookFacts → ℕ
owed f = if f.ends == f.starts then 0 else owed_by f.last

-- Between two steps: since a bundle was made fewer than 900 marks were made, and there was room for 1,024.
pub record IsSound {S : Type 0} (u : UnitState S) : Type 0 where
  pub agrees : Agrees u
  pub few : IfSome u.live (λ l. since_made u.scripts.log.past < 900)
  pub owes : u.live ≡ None → owed u.scripts.machine.facts + 2 ≤ room_of u.scripts.log

-- A piece of a step: so many marks at most were added; where no bundle lives, nothing of this changes.
pub record Goes {S : Type 0} (most : ℕ) (old new : UnitState S) : Type 0 where
  pub moves : Moves most old.scripts new.scripts
  pub none : old.live ≡ None → (new.live ≡ None) × (new.scripts ≡ old.scripts)

-- Between two pieces of a step.
pub record IsGoing {S : Type 0} (u : UnitState S) : Type 0 where
  pub agrees : Agrees u
  pub left : IfSome u.live (λ l. 40 ≤ room_of u.scripts.log)
  pub owes : u.live ≡ None → owed u.scripts.machine.facts + 2 ≤ room_of u.scripts.log

-- Between two packets that were gathered: there is room for one more, and for the end of the bundle behind it.
pub record IsReady {S : Type 0} (u : UnitState S) : Type 0 where
  pub agrees : Agrees u
  pub room : IfSome u.live (λ l. 100 ≤ room_of u.scripts.log)
  pub owes : u.live ≡ None → owed u.scripts.machine.facts + 2 ≤ room_of u.scripts.log
