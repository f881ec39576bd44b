use Rattle.std.proofs.Common.{◌≡◌, ℕ, ◌<◌, true, min, get_or, take}
use Rattle.ppp_base.specs.Numbers.{is_digit, value_behind}
use Rattle.ppp_trace.proofs.sections.count_of.Given as goal

-- What was looked at are digits, and the count is what they spell, as far as a number goes.
abbrev pub invariant-loop-digit : goal.invariant-loop-digit
invariant-loop-digit l =
    ((k : ℕ) → k < l.digit-index → is_digit (get_or l.digits k 0) ≡ true) × (l.count ≡ min (value_behind 0 (take l.digit-index l.digits)) 18446744073709551615)
