use Rattle.std.proofs.Common.{ℕ, List, refl, sym, subst, inl, inr}
use Rattle.ppp_report.specs.Text.{After, HasNoDigit}
use Rattle.ppp_report.proofs.number.last_number.Goals as goal

no_digit : (after rest : List ℕ) → After after rest → HasNoDigit after
no_digit after rest (inl end) = rw end.0 tt
no_digit after rest (inr more) = rw more refl

pub returns-in_default-clause-found : goal.returns-in_default-clause-found
returns-in_default-clause-found c = λ n after rest low over is.
    let first = c.in_ok-value.ensures.found n after low (no_digit after rest over) is in
    c.in_default.ensures.found rest (subst (λ xs. After xs rest) (sym first.1) over)
