use Rattle.ppp_bundle.proofs.LogFacts.{shut_same}
use Rattle.ppp_bundle.proofs.scripts.shut_ip.Goals as goal

pub returns-clause-same : goal.returns-clause-same
returns-clause-same g c =
    shut_same c.args.scripts.now.machine.target c.args.unit c.args.time c.args.scripts.now.log _ c.requires.unit c.closes.ensures.log
