use Rattle.std.proofs.Common.{refl}
use Rattle.ppp_chat.proofs.Sending.{stays_where_stopped}
use Rattle.ppp_chat.proofs.walk.take.Goals as goal

pub returns-in-Expect : goal.returns-in-Expect
returns-in-Expect c = record {
  takes = rw c.in-Expect.is (c.expect.ensures.takes c.args.steps.now c.args.directives.now);
  waits = c.expect.ensures.waits;
  set = rw c.in-Expect.is refl;
  stops = stays_where_stopped c.expect.result c.args.directives.now;
}

pub returns-in-Send : goal.returns-in-Send
returns-in-Send c = record {
  takes = rw c.in-Send.is (c.send.ensures.takes c.args.steps.now c.args.now c.args.directives.now);
  waits = c.send.ensures.waits;
  set = rw c.in-Send.is refl;
  stops = stays_where_stopped c.send.result c.args.directives.now;
}

pub returns-in-Pause : goal.returns-in-Pause
returns-in-Pause c = record {
  takes = rw c.in-Pause.is (c.pause.ensures.takes _ c.args.steps.now c.args.directives.now);
  waits = c.pause.ensures.waits;
  set = rw c.in-Pause.is refl;
  stops = stays_where_stopped c.pause.result c.args.directives.now;
}
