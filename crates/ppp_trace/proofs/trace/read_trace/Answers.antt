use Rattle.std.proofs.Common.{◌∷◌, ap, ◌∙◌, arith}
use Rattle.ppp_mark.specs.Lines.{lines_of}
use Rattle.ppp_trace.proofs.SectionLemmas.{lines_few}
use Rattle.ppp_trace.proofs.TellLemmas.{full_tells}
use Rattle.ppp_trace.proofs.trace.read_trace.Goals as goal

pub returns-in-Ok : goal.returns-in-Ok
returns-in-Ok c = record {
  few = omega (arith, c.if-octets.false);
  seed = c.in-Some.seed;
  small = c.in-Some.ensures.0;
  others = lines_of c.first_line.result.1.now;
  header = c.first_line.ensures.lines ∙ ap (λ l. l ∷ lines_of c.first_line.result.1.now) c.in-Some.ensures.1;
  part = c.in-Ok.part;
  reads = c.in-Ok.ensures (omega (arith, lines_few c.first_line.result.1.now, c.first_line.ensures.shorter, c.if-octets.false));
  is = c.trace_of.ensures;
}

pub returns-in-Err : goal.returns-in-Err
returns-in-Err c =
    full_tells c.args.octets.now c.in-Some.seed (lines_of c.first_line.result.1.now) c.in-Err.fault (omega (arith, c.if-octets.false)) c.in-Some.ensures.0
    (c.first_line.ensures.lines ∙ ap (λ l. l ∷ lines_of c.first_line.result.1.now) c.in-Some.ensures.1)
    (c.in-Err.ensures (omega (arith, lines_few c.first_line.result.1.now, c.first_line.ensures.shorter, c.if-octets.false)))
