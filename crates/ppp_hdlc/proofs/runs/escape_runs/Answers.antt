use Rattle.std.proofs.Common.{◌+◌, ◌++◌, take, drop, get_or, sym, ap, ◌∙◌, arith}
use Rattle.ppp_hdlc.specs.Encoding.{escape}
use Rattle.ppp_hdlc.proofs.Escaping.{escaped-none, escaped-more, escaped-run}
use Rattle.ppp_hdlc.proofs.runs.escape_runs.Goals as goal

pub loop-at-init : goal.loop-at-init
loop-at-init c = record { few = omega arith; long = c.requires.long; within = omega arith; written = sym (escaped-none c.args.map) }

pub loop-at-preserved : goal.loop-at-preserved
loop-at-preserved c = record {
  few = omega (arith, c.loop-at.invariant.few);
  long = c.copy_plain-run.ensures.len ∙ c.loop-at.invariant.long;
  within = omega (arith, c.loop-at-test.true, c.copy_plain-run.ensures.within);
  written = c.copy_plain-run.ensures.kept
      ∙ ap (λ l. l ++ take c.copy_plain-run.result (drop c.loop-at.at c.args.octets.now)) c.loop-at.invariant.written
      ∙ escaped-run c.args.map c.loop-at.at c.copy_plain-run.result c.args.octets.now (omega (arith, c.loop-at-test.true)) c.copy_plain-run.ensures.within c.copy_plain-run.ensures.plain;
}

pub loop-at-preserved-then-run-lt-LANES : goal.loop-at-preserved-then-run-lt-LANES
loop-at-preserved-then-run-lt-LANES c = record {
  few = omega (arith, c.loop-at.invariant.few, c.escape_to-n.ensures.count);
  long = c.escape_to-n.ensures.len ∙ c.copy_plain-run.ensures.len ∙ c.loop-at.invariant.long;
  within = omega (arith, c.loop-at-test.true, c.if-run-lt-LANES.true);
  written = c.escape_to-n.ensures.written
      ∙ ap (λ l. l ++ escape c.args.map (get_or c.args.octets.now (c.loop-at.at + c.copy_plain-run.result) 0))
      (c.copy_plain-run.ensures.kept
      ∙ ap (λ l. l ++ take c.copy_plain-run.result (drop c.loop-at.at c.args.octets.now)) c.loop-at.invariant.written
      ∙ escaped-run c.args.map c.loop-at.at c.copy_plain-run.result c.args.octets.now (omega (arith, c.loop-at-test.true)) c.copy_plain-run.ensures.within c.copy_plain-run.ensures.plain)
      ∙ sym (escaped-more c.args.map c.args.octets.now (c.loop-at.at + c.copy_plain-run.result) (omega (arith, c.loop-at-test.true, c.if-run-lt-LANES.true)));
}
