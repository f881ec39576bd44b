use Rattle.std.specs.Prelude.{◌-◌, slice_get}
use Rattle.ppp_world_rules.proofs.LinkSteps.{leaves_idle, leaves_stepped, answers_turn}
use Rattle.ppp_world_rules.proofs.rows.what_a_step_of_a_link_leaves.Goals as goal

pub returns-clause-link : goal.returns-clause-link
returns-clause-link c link step old new answer p there s = leaves_stepped link step old new answer (slice_get old.links (link - 1)) p there s

pub returns-clause-answer : goal.returns-clause-answer
returns-clause-answer c link step old new answer p there s = answers_turn link step old new answer (slice_get old.links (link - 1)) p there s

pub returns-clause-none : goal.returns-clause-none
returns-clause-none c link step old new answer there s = leaves_idle link step old new answer (slice_get old.links (link - 1)) there s
