-- A router in a trace, as plain values: its links, its units' scripts that are out, and the table.
use Rattle.std.specs.Prelude.{ℕ, Option, List, [], ◌∷◌}
use Rattle.ppp_base.specs.RingAfter.{one_more}
use Rattle.ppp_mark.specs.declared.mark.Mark.{Mark}
use Rattle.ppp_mark.specs.declared.report.LogName.{LogName}
use Rattle.ppp_mark.specs.declared.report.LogName.TheVariants as name
use Rattle.ppp_outside.specs.declared.replay_spawner.ReplaySpawner.{ReplaySpawner}
use Rattle.ppp_outside.specs.declared.spawner.ScriptEnd.TheVariants.{Exit}
use Rattle.ppp_table.specs.TableState.{TableState}
use Rattle.ppp_world_rules.specs.Place.{JobOut, PlaceState}

abbrev pub Table : Type 0
Table = TableState ReplaySpawner

pub record Router : Type 0 where
  pub links : List PlaceState
  pub jobs : List (Option JobOut)
  pub table : Table

-- All deliveries are taken out of a table, and counted.
abbrev pub taken_with : {A : Type 0} → List A → ℕ → ℕ
taken_with [] taken = taken
taken_with (d ∷ ds) taken = taken_with ds (one_more taken)

abbrev pub drained : Table → Table
drained t = record t { deliveries = record t.deliveries { waiting = [] }; taken = taken_with t.deliveries.waiting t.taken }

-- whose mark it is
abbrev pub link_mark : ℕ → Mark → LogName × Mark
link_mark link m = (name.Link link, m)

abbrev pub unit_mark : ℕ → Mark → LogName × Mark
unit_mark unit m = (name.Unit unit, m)

-- a spawner as it is made
abbrev pub new_spawner : ReplaySpawner
new_spawner = record { next = Exit 0; tries = 0; faults = 0 }
