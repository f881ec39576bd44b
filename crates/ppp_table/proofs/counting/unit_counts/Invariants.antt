use Rattle.std.proofs.Common.{◌≡◌, ◌≤◌, ◌+◌, ◌-◌, ◌^◌, ℕ, drop}
use Rattle.ppp_table.proofs.Sums.{Counted}
use Rattle.ppp_table.proofs.counting.unit_counts.Given as goal

abbrev pub invariant-counting : goal.invariant-counting
invariant-counting g l = record {
  not_open : Counted (λ u. u.counts.not_open) l.not_open l.unit-index l.units;
  stranger : Counted (λ u. u.counts.stranger) l.stranger l.unit-index l.units;
  too_big : Counted (λ u. u.counts.too_big) l.too_big l.unit-index l.units;
  bad_inner : Counted (λ u. u.counts.bad_inner) l.bad_inner l.unit-index l.units;
}
