-- What directives have set, by looking back at those that were met (chat(8), "Abort strings", "Timeout").
use Rattle.std.specs.Prelude.{ℕ, ◌*◌, Bool, false, ◌||◌, if◌then◌else◌, List, [], ◌∷◌, nat_eq}
use Rattle.std.specs.Cmp.Lexicographic.{pointwise}
use Rattle.ppp_chat.specs.declared.directive.Directive.{Directive}
use Rattle.ppp_chat.specs.declared.directive.Directive.TheVariants.{Abort, ClearAbort, Timeout}

-- whether an equal string is cleared among these
abbrev pub is_cleared : List ℕ → List Directive → Bool
is_cleared text [] = false
is_cleared text (Abort other ∷ later) = is_cleared text later
is_cleared text (ClearAbort other ∷ later) = pointwise nat_eq text other || is_cleared text later
is_cleared text (Timeout seconds ∷ later) = is_cleared text later

-- The abort strings in the order in which they were set. Each is one until an equal string is cleared.
abbrev pub aborts_of : List Directive → List (List ℕ)
aborts_of [] = []
aborts_of (Abort text ∷ later) = if is_cleared text later then aborts_of later else text ∷ aborts_of later
aborts_of (ClearAbort text ∷ later) = aborts_of later
aborts_of (Timeout seconds ∷ later) = aborts_of later

-- the seconds of the last TIMEOUT, or these where there is none
abbrev pub seconds_after : ℕ → List Directive → ℕ
seconds_after first [] = first
seconds_after first (Abort text ∷ later) = seconds_after first later
seconds_after first (ClearAbort text ∷ later) = seconds_after first later
seconds_after first (Timeout seconds ∷ later) = seconds_after seconds later

-- the abort strings, and the time of an expect in milliseconds
pub record Settings : Type 0 where
  pub aborts : List (List ℕ)
  pub timeout : ℕ

-- what is set behind these directives, where an expect is late after so many seconds before them
abbrev pub settings_after : ℕ → List Directive → Settings
settings_after first directives = record { aborts = aborts_of directives; timeout = seconds_after first directives * 1000 }
