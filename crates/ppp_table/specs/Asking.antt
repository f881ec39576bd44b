-- Which unit a link asks for.
use Rattle.std.specs.Prelude.{ℕ, ◌-◌, ◌==◌, ◌&&◌, ◌||◌, Bool, false, is_some, Option, None, Some, List, slice_get, if◌then◌else◌}
use Rattle.ppp_option_words.specs.Home.{home_unit}
use Rattle.ppp_option_words.specs.LinkValues.{LinkValues}
use Rattle.ppp_table_parts.specs.Side.{SideState, with_wake}
use Rattle.ppp_table_parts.specs.Sides.{each_link}
use Rattle.ppp_table.specs.TableState.{TableState}

-- A link asks for its home unit exactly where `unit` or `demand` is given.
abbrev pub asked_by : ℕ → LinkValues → Option ℕ
asked_by link c = if is_some c.unit || c.demand then Some (home_unit link c.unit) else None

-- whether a link with `demand` asks for this unit
abbrev pub is_woken : (unit link : ℕ) → Option LinkValues → Bool
is_woken unit link None = false
is_woken unit link (Some c) = c.demand && home_unit link c.unit == unit

abbrev pub woken_one : ℕ → List LinkValues → ℕ → SideState → SideState
woken_one unit links link side = if is_woken unit link (slice_get links (link - 1)) then with_wake side else side

-- A Wake waits for each link with `demand` that asks for this unit.
abbrev pub woken : {S : Type 0} → ℕ → TableState S → TableState S
woken unit t = record t { sides = each_link (woken_one unit t.links) 1 t.sides }
