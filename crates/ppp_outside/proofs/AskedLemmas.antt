-- An `Asked` that says what some calls were given says it of one more.
use Rattle.std.proofs.Common.{◌≡◌, inl, inr, List, [], ◌∷◌, refl, sym, subst, ◌∙◌}
use Rattle.std.specs.Prelude.{◌≢◌, All}
use Rattle.std.proofs.lemmas.List.Elements.{All-nil, All-cons, All-head, All-tail}
use Rattle.ppp_outside.specs.Kit.{AskedAfter, TellsOf}
use Rattle.ppp_outside.specs.declared.asked.Asked.{Asked}
use Rattle.ppp_outside.specs.declared.asked.Asked.TheVariants.{NotYet, Always, Mixed}

is_some : (A : Type 0) (value : A) (values : List A) → value ∷ values ≢ []
is_some A value values none = absurd (cc none)

-- Another value than the first, which all others are equal to, leaves no value that all are equal to.
differ : (A : Type 0) (first value : A) (values : List A) → values ≢ [] → All (λ (v : A). v ≡ first) values → first ≢ value
    → (x : A) → All (λ (v : A). v ≡ x) (value ∷ values) → ⊥
differ A first value [] some all other x wrong = some refl
differ A first value (v ∷ rest) some all other x wrong =
    let one : v ≡ first = All-head (λ (w : A). w ≡ first) v rest all in
    let two : v ≡ x = All-head (λ (w : A). w ≡ x) v rest (All-tail (λ (w : A). w ≡ x) value (v ∷ rest) wrong) in
    let three : value ≡ x = All-head (λ (w : A). w ≡ x) value (v ∷ rest) wrong in
    other (sym one ∙ two ∙ sym three)

told : (A : Type 0) (value : A) (values : List A) (now meant : Asked A) → now ≡ meant → TellsOf meant (value ∷ values) → TellsOf now (value ∷ values)
told A value values now meant is tells = subst (λ (a : Asked A). TellsOf a (value ∷ values)) (sym is) tells

pub one_more : (A : Type 0) (before now : Asked A) (value : A) (values : List A) → TellsOf before values → AskedAfter before value now
    → TellsOf now (value ∷ values)
one_more A NotYet now value values none is = told A value values now (Always value) is (
  is_some A value values,
  All-cons (λ (v : A). v ≡ value) value values refl (subst (λ (vs : List A). All (λ (v : A). v ≡ value) vs) (sym none) (All-nil (λ (v : A). v ≡ value))),
)
one_more A (Always first) now value values tells (inl same) = told A value values now (Always first) same.1 (
  is_some A value values,
  All-cons (λ (v : A). v ≡ first) value values (sym same.0) tells.1,
)
one_more A (Always first) now value values tells (inr other) =
    told A value values now Mixed other.1 (differ A first value values tells.0 tells.1 other.0)
one_more A Mixed now value values tells is =
    told A value values now Mixed is (λ x wrong. tells x (All-tail (λ (v : A). v ≡ x) value values wrong))
