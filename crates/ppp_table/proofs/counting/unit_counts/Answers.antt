use Rattle.std.proofs.Common.{◌<◌, length, arith}
use Rattle.ppp_table.proofs.Sums.{all_counted, one_counted}
use Rattle.ppp_table.proofs.counting.unit_counts.Goals as goal

pub returns-clause-not_open : goal.returns-clause-not_open
returns-clause-not_open g c = all_counted (λ u. u.counts.not_open) c.counting.not_open c.counting.unit-index c.args.units.now (grind (arith, c.counting-test.false)) c.counting.invariant.not_open

pub returns-clause-stranger : goal.returns-clause-stranger
returns-clause-stranger g c = all_counted (λ u. u.counts.stranger) c.counting.stranger c.counting.unit-index c.args.units.now (grind (arith, c.counting-test.false)) c.counting.invariant.stranger

pub returns-clause-too_big : goal.returns-clause-too_big
returns-clause-too_big g c = all_counted (λ u. u.counts.too_big) c.counting.too_big c.counting.unit-index c.args.units.now (grind (arith, c.counting-test.false)) c.counting.invariant.too_big

pub returns-clause-bad_inner : goal.returns-clause-bad_inner
returns-clause-bad_inner g c = all_counted (λ u. u.counts.bad_inner) c.counting.bad_inner c.counting.unit-index c.args.units.now (grind (arith, c.counting-test.false)) c.counting.invariant.bad_inner

pub counting-preserved : goal.counting-preserved
counting-preserved g c =
    let some : c.counting.unit-index < length c.args.units.now = grind (arith, c.counting-test.true) in
    record {
      not_open = rw (c.saturating_add-not_open.ensures, c.counts-counts.ensures) (one_counted (λ u. u.counts.not_open) c.counting.not_open c.counting.unit-index c.args.units.now c.unit-item.result some c.unit-item.is c.counting.invariant.not_open);
      stranger = rw (c.saturating_add-stranger.ensures, c.counts-counts.ensures) (one_counted (λ u. u.counts.stranger) c.counting.stranger c.counting.unit-index c.args.units.now c.unit-item.result some c.unit-item.is c.counting.invariant.stranger);
      too_big = rw (c.saturating_add-too_big.ensures, c.counts-counts.ensures) (one_counted (λ u. u.counts.too_big) c.counting.too_big c.counting.unit-index c.args.units.now c.unit-item.result some c.unit-item.is c.counting.invariant.too_big);
      bad_inner = rw (c.saturating_add-bad_inner.ensures, c.counts-counts.ensures) (one_counted (λ u. u.counts.bad_inner) c.counting.bad_inner c.counting.unit-index c.args.units.now c.unit-item.result some c.unit-item.is c.counting.invariant.bad_inner);
    }
