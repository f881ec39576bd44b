use Rattle.std.proofs.Common.{◌≡◌, ◌∷◌, ◌++◌, ◌∙◌, ◌+◌, ℕ, List, [], Option, None, Some, IfSome, MatchOption, ap, sym, get_or, drop, decimal, arith}
use Rattle.ppp_mark.proofs.LinesLemmas.{rest_is}
use Rattle.ppp_report.proofs.NumberLemmas.{begins_with, is_alone, one_alone}
use Rattle.ppp_report.proofs.number.number_then.Goals as goal

of_some : {A : Type 0} (P Q : A → Type 0) (o : Option A) → ((a : A) → P a → Q a) → IfSome o P → IfSome o Q
of_some P Q None f p = tt
of_some P Q (Some a) f p = f a p

of_match : {A : Type 0} (P Q : A → Type 0) (o : Option A) → ((a : A) → P a → Q a) → MatchOption o ⊥ P → MatchOption o ⊥ Q
of_match P Q None f p = p
of_match P Q (Some a) f p = f a p

pub returns-then-space-eq32-clause-sound : goal.returns-then-space-eq32-clause-sound
returns-then-space-eq32-clause-sound c =
    let text = c.args.text.now in
    of_some _ _ c.one_digit.result (λ r p. (
      omega (arith, c.requires, p.0),
      begins_with text c.in-len2-up.len_at_least
          ∙ ap (λ d. d ∷ get_or text 1 0 ∷ drop 2 text) p.1
          ∙ ap (λ s. (48 + r.0) ∷ s ∷ drop 2 text) c.if-space-eq32.true
          ∙ ap (λ xs. (48 + r.0) ∷ 32 ∷ xs) (sym (rest_is 2 text) ∙ sym p.2)
          ∙ ap (λ xs. xs ++ 32 ∷ r.1.now) (sym (is_alone r.0 p.0)),
    )) c.one_digit.ensures.digit

pub returns-then-space-eq32-clause-found : goal.returns-then-space-eq32-clause-found
returns-then-space-eq32-clause-found c = λ n rest low is.
    let one = one_alone c.args.text.now rest n (omega (arith, low, c.ranges.most.fits)) is c.if-space-eq32.true in
    of_match _ _ c.one_digit.result (λ r p. (p.0, p.1 ∙ rest_is 2 c.args.text.now ∙ one.behind)) (c.one_digit.ensures.none n one.small one.digit)
