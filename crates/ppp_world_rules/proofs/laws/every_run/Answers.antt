use Rattle.ppp_world_rules.proofs.Runs.{headline, new_router_stands, run_stands}
use Rattle.ppp_world_rules.proofs.laws.every_run.Goals as goal

pub returns : goal.returns
returns c config secrets seed start end steps outputs least new run = headline end (run_stands steps start end outputs run (new_router_stands config secrets seed start least new))
