use Rattle.std.proofs.Common.{◌≡◌, ℕ, ◌<◌, true, get_or, take}
use Rattle.ppp_base.specs.Numbers.{is_digit, value_behind}
use Rattle.ppp_report.proofs.NumberLemmas.{tens}
use Rattle.ppp_report.proofs.number.front.Given as goal

-- What was looked at are digits, and the value is theirs.
abbrev pub invariant-loop-i : goal.invariant-loop-i
invariant-loop-i l = ((k : ℕ) → k < l.i → is_digit (get_or l.text k 0) ≡ true) × (l.value ≡ value_behind 0 (take l.i l.text)) × (l.value < tens l.i)
