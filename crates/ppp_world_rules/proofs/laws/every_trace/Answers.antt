use Rattle.ppp_world_rules.proofs.Runs.{headline, new_router_stands, run_stands}
use Rattle.ppp_world_rules.proofs.laws.every_trace.Goals as goal

pub returns : goal.returns
returns c trace least t =
    headline t.lines.last (run_stands t.lines.steps t.first t.lines.last t.lines.outputs t.lines.run (new_router_stands trace.config trace.secrets trace.seed t.first least t.new))
