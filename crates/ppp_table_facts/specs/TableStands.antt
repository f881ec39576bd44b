-- What is so of a table between two steps.
use Rattle.std.specs.Prelude.{ℕ, ◌≡◌, ◌<◌, ◌≤◌, ⊤, None, IfSome, List, length, slice_get}
use Rattle.ppp_base.specs.declared.posts.UpPost.{UpPost}
use Rattle.ppp_base.specs.declared.posts.UpPost.TheVariants.{Join, Frame, Leave}
use Rattle.ppp_hooks.specs.HookFacts.{StandsFor}
use Rattle.ppp_hooks.specs.HookPast.{ends_in, starts_in}
use Rattle.ppp_mark.specs.ScriptLog.{ScriptLogState}
use Rattle.ppp_mark.specs.Scripts.{AreUpOrDown, said_in}
use Rattle.ppp_bundle.specs.Lives.{IsUnit}
use Rattle.ppp_bundle.specs.State.{UnitState}
use Rattle.ppp_table.specs.Fits.{IsWhole}
use Rattle.ppp_table.specs.TableState.{TableState}

-- A log says of scripts what their machine has; and a script runs while its spawner is out.
pub record ScriptsKeep {S : Type 0} (s : ScriptLogState S) : Type 0 where
  pub stands : StandsFor s.machine.facts (said_in s.log.past)
  pub directions : AreUpOrDown s.log.past
  pub out : s.machine.spawner ≡ None → ends_in (said_in s.log.past) < starts_in (said_in s.log.past)

-- A unit is what its contracts say of it, and so are its scripts.
pub record UnitKeeps {S : Type 0} (u : UnitState S) : Type 0 where
  pub unit : IsUnit u
  pub scripts : ScriptsKeep u.scripts

-- each of them
abbrev pub AllKeep : {S : Type 0} → List (UnitState S) → Type 0
AllKeep units = (unit : ℕ) → IfSome (slice_get units unit) UnitKeeps

-- The table is whole, each of its units is kept, and there is a place for what waits for each of sixteen links.
pub record TableStands {S : Type 0} (t : TableState S) : Type 0 where
  pub whole : IsWhole t
  pub units : AllKeep t.units
  pub sides : length t.sides ≡ 16

-- The peer of a link that asks for a bundle takes 128 to 1,500 octets.
abbrev pub IsPost : UpPost → Type 0
IsPost (Join j) = (128 ≤ j.mru) × (j.mru ≤ 1500)
IsPost (Frame protocol information) = ⊤
IsPost (Leave stay) = ⊤
