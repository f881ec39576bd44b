-- Short names for worked traces of one link.
use Rattle.std.specs.Prelude.{List, [], ◌∷◌, length}
use Rattle.ppp_fsm.specs.declared.fsm.Limits.{Limits}
use Rattle.ppp_link_rules.specs.Rows.{link_of}
use Rattle.ppp_mark.specs.declared.mark.Mark.{Mark}
use Rattle.ppp_option_words.specs.LinkValues.{LinkValues}
use Rattle.ppp_bundle.specs.State.{UnitState}
use Rattle.ppp_outside.specs.declared.replay_spawner.ReplaySpawner.{ReplaySpawner}
use Rattle.ppp_trace.specs.declared.world_step.WorldStep.{WorldStep}
use Rattle.ppp_world_rules.specs.NewMarks.{marks_since}
use Rattle.ppp_world_rules.specs.Place.{PlaceState, new_place}
use Rattle.ppp_world_rules.specs.Router.{Router}
use Rattle.ppp_world_rules.specs.Turns.{errands_taken, turn_of}

-- link 1 with these options
abbrev pub first_link : Limits → LinkValues → PlaceState
first_link limits config = new_place (link_of limits config)

abbrev pub stepped : WorldStep → PlaceState → PlaceState
stepped step p = errands_taken (turn_of step p).place

abbrev pub after_steps : List WorldStep → PlaceState → PlaceState
after_steps [] p = p
after_steps (step ∷ steps) p = after_steps steps (stepped step p)

-- the marks that a step makes new
abbrev pub told_by : WorldStep → PlaceState → List Mark
told_by step p = marks_since (length p.link.log.past) (stepped step p).link.log

-- a link and a unit with these marks in their logs, the newest first
abbrev pub with_log : List Mark → PlaceState → PlaceState
with_log past p = record p { link = record p.link { log = record p.link.log { past = past } } }

abbrev pub with_unit_log : List Mark → UnitState ReplaySpawner → UnitState ReplaySpawner
with_unit_log past u = record u { scripts = record u.scripts { log = record u.scripts.log { past = past } } }

-- a router with one link and one unit, which have these marks
abbrev pub with_marks : (of_link of_unit : List Mark) → PlaceState → UnitState ReplaySpawner → Router → Router
with_marks of_link of_unit p u r = record r { links = with_log of_link p ∷ []; table = record r.table { units = with_unit_log of_unit u ∷ [] } }
