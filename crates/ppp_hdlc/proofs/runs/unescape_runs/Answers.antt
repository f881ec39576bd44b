use Rattle.std.proofs.Common.{◌≡◌, ◌+◌, ◌<◌, take, length, sym, ◌∙◌, arith, length-take-le, length-set}
use Rattle.std.proofs.lemmas.List.{take_more_set}
use Rattle.ppp_hdlc.proofs.Spanning.{takes_none, takes_copied, takes_pair}
use Rattle.ppp_hdlc.proofs.runs.unescape_runs.Goals as goal

pub loop-at-init : goal.loop-at-init
loop-at-init c = record {
  count = omega (arith, c.requires.count, c.requires.long);
  long = c.requires.long;
  within = c.requires.from;
  takes = λ is_over. takes_none _ _ _ c.requires.from;
}

pub returns-then-octets-at-ne-ESCAPE-clause-takes : goal.returns-then-octets-at-ne-ESCAPE-clause-takes
returns-then-octets-at-ne-ESCAPE-clause-takes c = λ is_over.
    takes_copied _ _ c.loop-at.at c.copy_plain-run.result c.args.map _ (take c.loop-at.n c.loop-at.out) _ is_over (c.loop-at.invariant.takes is_over) c.copy_plain-run.ensures.kept c.copy_plain-run.ensures.within (omega (arith, c.loop-at-test.true))
    (omega (arith, c.if-out-n-ge-LANES.true, c.loop-at.invariant.long, length-take-le c.loop-at.n c.loop-at.out (omega (arith, c.loop-at.invariant.long, c.loop-at.invariant.count)))) c.copy_plain-run.ensures.plain

pub returns-then-next-eq-FLAG-clause-takes : goal.returns-then-next-eq-FLAG-clause-takes
returns-then-next-eq-FLAG-clause-takes c = λ is_over.
    takes_copied _ _ c.loop-at.at c.copy_plain-run.result c.args.map _ (take c.loop-at.n c.loop-at.out) _ is_over (c.loop-at.invariant.takes is_over) c.copy_plain-run.ensures.kept c.copy_plain-run.ensures.within (omega (arith, c.loop-at-test.true))
    (omega (arith, c.if-out-n-ge-LANES.true, c.loop-at.invariant.long, length-take-le c.loop-at.n c.loop-at.out (omega (arith, c.loop-at.invariant.long, c.loop-at.invariant.count)))) c.copy_plain-run.ensures.plain

pub loop-at-preserved : goal.loop-at-preserved
loop-at-preserved c = record {
  count = omega (arith, c.if-out-n-ge-LANES.true, c.loop-at.invariant.long, c.copy_plain-run.ensures.within);
  long = c.copy_plain-run.ensures.len ∙ c.loop-at.invariant.long;
  within = omega (arith, c.loop-at-test.true, c.copy_plain-run.ensures.within);
  takes = λ is_over.
      takes_copied _ _ c.loop-at.at c.copy_plain-run.result c.args.map _ (take c.loop-at.n c.loop-at.out) _ is_over (c.loop-at.invariant.takes is_over) c.copy_plain-run.ensures.kept c.copy_plain-run.ensures.within (omega (arith, c.loop-at-test.true))
      (omega (arith, c.if-out-n-ge-LANES.true, c.loop-at.invariant.long, length-take-le c.loop-at.n c.loop-at.out (omega (arith, c.loop-at.invariant.long, c.loop-at.invariant.count)))) c.copy_plain-run.ensures.plain;
}

pub loop-at-preserved-then-run-lt-LANES : goal.loop-at-preserved-then-run-lt-LANES
loop-at-preserved-then-run-lt-LANES c =
    let n = c.loop-at.n + c.copy_plain-run.result in
    let long : length c.copy_plain-run.new.out ≡ 1508 = c.copy_plain-run.ensures.len ∙ c.loop-at.invariant.long in
    let below : c.loop-at.n + c.copy_plain-run.result < length c.copy_plain-run.new.out = omega (arith, long, c.if-out-n-ge-LANES.true, c.loop-at.invariant.long, c.if-run-lt-LANES.true) in
    record {
      count = omega (arith, long);
      long = length-set c.copy_plain-run.new.out (c.loop-at.n + c.copy_plain-run.result) _ ∙ long;
      within = omega (arith, c.if-octets-at-lt2.false);
      takes = λ is_over.
          takes_pair _ _ (c.loop-at.at + c.copy_plain-run.result) c.args.map _ (take (c.loop-at.n + c.copy_plain-run.result) c.copy_plain-run.new.out) _ is_over
          (takes_copied _ _ c.loop-at.at c.copy_plain-run.result c.args.map _ (take c.loop-at.n c.loop-at.out) _ is_over (c.loop-at.invariant.takes is_over) c.copy_plain-run.ensures.kept c.copy_plain-run.ensures.within (omega (arith, c.loop-at-test.true))
          (omega (arith, c.if-out-n-ge-LANES.true, c.loop-at.invariant.long, length-take-le c.loop-at.n c.loop-at.out (omega (arith, c.loop-at.invariant.long, c.loop-at.invariant.count)))) c.copy_plain-run.ensures.plain)
          c.if-octets-at-ne-ESCAPE.false
          (omega (arith, c.if-octets-at-lt2.false))
          c.if-next-eq-FLAG.false
          (sym c.is_mapped.ensures ∙ c.if-is_mapped.false)
          (omega (arith, long, length-take-le (c.loop-at.n + c.copy_plain-run.result) c.copy_plain-run.new.out (omega arith)))
          (take_more_set c.copy_plain-run.new.out (c.loop-at.n + c.copy_plain-run.result) _ below);
    }
