use Rattle.std.proofs.Common.{refl}
use Rattle.chat.proofs.run.run_plan.Goals as goal

pub returns-in-Line : goal.returns-in-Line
returns-in-Line g c = record {
  dials = c.in-Line.ensures.dials;
  first = (c.in-Line.input, c.in-Line.output);
  new_input = c.in-Line.ensures.new_line.0;
  new_output = c.in-Line.ensures.new_line.1;
  last = (c.talk-end.new.input, c.talk-end.new.output);
  line_is = refl;
  talks = c.talk-end.ensures;
}
