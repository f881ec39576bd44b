use Rattle.std.proofs.Common.{◌≡◌, ◌≤◌, drop}
use Rattle.ppp_base.proofs.NumberLemmas.{number_behind}
use Rattle.ppp_base.proofs.numbers.number_within.Given as goal

-- What the digits that are left make of the value so far is what all make.
abbrev pub invariant-loop-digit : goal.invariant-loop-digit
invariant-loop-digit l = record {
  read : number_behind l.fn.least l.fn.most l.value (drop l.digit-index l.digits) ≡ number_behind l.fn.least l.fn.most 0 l.digits;
  small : l.value ≤ l.fn.most;
}
