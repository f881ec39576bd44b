use Rattle.ppp_trace.proofs.FullLemmas.{by_link}
use Rattle.ppp_trace.proofs.full_step.read_step.Goals as goal

pub returns : goal.returns
returns c =
    by_link c.args.links c.args.line.now c.of_link.result c.in_default.ensures c.in_default-unit_hook.ensures c.in_default-packet.ensures c.in_default-carry.ensures c.of_link.ensures
