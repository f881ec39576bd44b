use Rattle.std.proofs.Common.{◌≡◌, ℕ, ◌<◌, true, get_or}
use Rattle.ppp_base.specs.Numbers.{is_digit}
use Rattle.ppp_report.proofs.number.digits.Given as goal

-- What was looked at are digits.
abbrev pub invariant-loop-i : goal.invariant-loop-i
invariant-loop-i l = (k : ℕ) → k < l.i → is_digit (get_or l.text k 0) ≡ true
