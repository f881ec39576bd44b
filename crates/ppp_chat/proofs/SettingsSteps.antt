-- What one more directive sets.
use Rattle.std.proofs.Common.{ℕ, ◌≡◌, ◌*◌, Bool, true, false, cond, not, ◌||◌, nat_eq, filter, List, [], ◌∷◌, ◌++◌, refl, ap, ◌∙◌}
use Rattle.std.specs.Cmp.Lexicographic.{pointwise}
use Rattle.ppp_chat.specs.Course.{obeyed}
use Rattle.ppp_chat.specs.Settings.{aborts_of, is_cleared, seconds_after, settings_after}
use Rattle.ppp_chat.specs.declared.directive.Directive.{Directive}
use Rattle.ppp_chat.specs.declared.directive.Directive.TheVariants.{Abort, ClearAbort, Timeout}

cleared-abort : (text new : List ℕ) (directives : List Directive) → is_cleared text (directives ++ Abort new ∷ []) ≡ is_cleared text directives
cleared-abort text new [] = refl
cleared-abort text new (Abort other ∷ directives) = cleared-abort text new directives
cleared-abort text new (ClearAbort other ∷ directives) = ap (λ b. pointwise nat_eq text other || b) (cleared-abort text new directives)
cleared-abort text new (Timeout seconds ∷ directives) = cleared-abort text new directives

cleared-timeout : (text : List ℕ) (new : ℕ) (directives : List Directive) → is_cleared text (directives ++ Timeout new ∷ []) ≡ is_cleared text directives
cleared-timeout text new [] = refl
cleared-timeout text new (Abort other ∷ directives) = cleared-timeout text new directives
cleared-timeout text new (ClearAbort other ∷ directives) = ap (λ b. pointwise nat_eq text other || b) (cleared-timeout text new directives)
cleared-timeout text new (Timeout seconds ∷ directives) = cleared-timeout text new directives

or-false : (b : Bool) → (b || false) ≡ b
or-false true = refl
or-false false = refl

or-assoc : (a b c : Bool) → (a || (b || c)) ≡ ((a || b) || c)
or-assoc true b c = refl
or-assoc false b c = refl

cleared-clear : (text new : List ℕ) (directives : List Directive)
    → is_cleared text (directives ++ ClearAbort new ∷ []) ≡ (is_cleared text directives || pointwise nat_eq text new)
cleared-clear text new [] = or-false (pointwise nat_eq text new)
cleared-clear text new (Abort other ∷ directives) = cleared-clear text new directives
cleared-clear text new (ClearAbort other ∷ directives) =
    ap (λ b. pointwise nat_eq text other || b) (cleared-clear text new directives)
    ∙ or-assoc (pointwise nat_eq text other) (is_cleared text directives) (pointwise nat_eq text new)
cleared-clear text new (Timeout seconds ∷ directives) = cleared-clear text new directives

-- the strings that do not equal this one
without : List ℕ → List (List ℕ) → List (List ℕ)
without text aborts = filter (λ (abort : List ℕ). not (pointwise nat_eq abort text)) aborts

onto-abort : (b : Bool) (text new : List ℕ) (rest : List (List ℕ)) → cond b (rest ++ new ∷ []) (text ∷ (rest ++ new ∷ [])) ≡ cond b rest (text ∷ rest) ++ new ∷ []
onto-abort true text new rest = refl
onto-abort false text new rest = refl

aborts-abort : (new : List ℕ) (directives : List Directive) → aborts_of (directives ++ Abort new ∷ []) ≡ aborts_of directives ++ new ∷ []
aborts-abort new [] = refl
aborts-abort new (Abort text ∷ directives) =
    ap (λ b. cond b (aborts_of (directives ++ Abort new ∷ [])) (text ∷ aborts_of (directives ++ Abort new ∷ []))) (cleared-abort text new directives)
    ∙ ap (λ (l : List (List ℕ)). cond (is_cleared text directives) l (text ∷ l)) (aborts-abort new directives)
    ∙ onto-abort (is_cleared text directives) text new (aborts_of directives)
aborts-abort new (ClearAbort other ∷ directives) = aborts-abort new directives
aborts-abort new (Timeout seconds ∷ directives) = aborts-abort new directives

aborts-timeout : (new : ℕ) (directives : List Directive) → aborts_of (directives ++ Timeout new ∷ []) ≡ aborts_of directives
aborts-timeout new [] = refl
aborts-timeout new (Abort text ∷ directives) =
    ap (λ b. cond b (aborts_of (directives ++ Timeout new ∷ [])) (text ∷ aborts_of (directives ++ Timeout new ∷ []))) (cleared-timeout text new directives)
    ∙ ap (λ (l : List (List ℕ)). cond (is_cleared text directives) l (text ∷ l)) (aborts-timeout new directives)
aborts-timeout new (ClearAbort other ∷ directives) = aborts-timeout new directives
aborts-timeout new (Timeout seconds ∷ directives) = aborts-timeout new directives

onto-clear : (b c : Bool) (text : List ℕ) (rest kept : List (List ℕ)) → cond (b || c) kept (text ∷ kept) ≡ cond b kept (cond (not c) (text ∷ kept) kept)
onto-clear true c text rest kept = refl
onto-clear false true text rest kept = refl
onto-clear false false text rest kept = refl

kept-cond : (b : Bool) (text new : List ℕ) (rest : List (List ℕ))
    → cond b (without new rest) (cond (not (pointwise nat_eq text new)) (text ∷ without new rest) (without new rest)) ≡ without new (cond b rest (text ∷ rest))
unfolding without
kept-cond true text new rest = refl
kept-cond false text new rest = refl

aborts-clear : (new : List ℕ) (directives : List Directive) → aborts_of (directives ++ ClearAbort new ∷ []) ≡ without new (aborts_of directives)
unfolding without
aborts-clear new [] = refl
aborts-clear new (Abort text ∷ directives) =
    ap (λ b. cond b (aborts_of (directives ++ ClearAbort new ∷ [])) (text ∷ aborts_of (directives ++ ClearAbort new ∷ []))) (cleared-clear text new directives)
    ∙ ap (λ (l : List (List ℕ)). cond (is_cleared text directives || pointwise nat_eq text new) l (text ∷ l)) (aborts-clear new directives)
    ∙ onto-clear (is_cleared text directives) (pointwise nat_eq text new) text (aborts_of directives) (without new (aborts_of directives))
    ∙ kept-cond (is_cleared text directives) text new (aborts_of directives)
aborts-clear new (ClearAbort other ∷ directives) = aborts-clear new directives
aborts-clear new (Timeout seconds ∷ directives) = aborts-clear new directives

seconds-abort : (first : ℕ) (new : List ℕ) (directives : List Directive) → seconds_after first (directives ++ Abort new ∷ []) ≡ seconds_after first directives
seconds-abort first new [] = refl
seconds-abort first new (Abort text ∷ directives) = seconds-abort first new directives
seconds-abort first new (ClearAbort text ∷ directives) = seconds-abort first new directives
seconds-abort first new (Timeout seconds ∷ directives) = seconds-abort seconds new directives

seconds-clear : (first : ℕ) (new : List ℕ) (directives : List Directive) → seconds_after first (directives ++ ClearAbort new ∷ []) ≡ seconds_after first directives
seconds-clear first new [] = refl
seconds-clear first new (Abort text ∷ directives) = seconds-clear first new directives
seconds-clear first new (ClearAbort text ∷ directives) = seconds-clear first new directives
seconds-clear first new (Timeout seconds ∷ directives) = seconds-clear seconds new directives

seconds-timeout : (first new : ℕ) (directives : List Directive) → seconds_after first (directives ++ Timeout new ∷ []) ≡ new
seconds-timeout first new [] = refl
seconds-timeout first new (Abort text ∷ directives) = seconds-timeout first new directives
seconds-timeout first new (ClearAbort text ∷ directives) = seconds-timeout first new directives
seconds-timeout first new (Timeout seconds ∷ directives) = seconds-timeout seconds new directives

-- What is set behind one more directive is what it changes.
pub settings-more : (first : ℕ) (directives : List Directive) (directive : Directive)
    → settings_after first (directives ++ directive ∷ []) ≡ obeyed directive (settings_after first directives)
unfolding without
settings-more first directives (Abort text) =
    ap (λ (l : List (List ℕ)). record { aborts = l; timeout = seconds_after first (directives ++ Abort text ∷ []) * 1000 }) (aborts-abort text directives)
    ∙ ap (λ (n : ℕ). record { aborts = aborts_of directives ++ text ∷ []; timeout = n * 1000 }) (seconds-abort first text directives)
settings-more first directives (ClearAbort text) =
    ap (λ (l : List (List ℕ)). record { aborts = l; timeout = seconds_after first (directives ++ ClearAbort text ∷ []) * 1000 }) (aborts-clear text directives)
    ∙ ap (λ (n : ℕ). record { aborts = without text (aborts_of directives); timeout = n * 1000 }) (seconds-clear first text directives)
settings-more first directives (Timeout seconds) =
    ap (λ (l : List (List ℕ)). record { aborts = l; timeout = seconds_after first (directives ++ Timeout seconds ∷ []) * 1000 }) (aborts-timeout seconds directives)
    ∙ ap (λ (n : ℕ). record { aborts = aborts_of directives; timeout = n * 1000 }) (seconds-timeout first seconds directives)
