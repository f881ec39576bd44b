-- None of the calls does it, or some call does.
use Rattle.std.proofs.Common.{List, [], ◌∷◌, ◌++◌, refl, ap, subst}
use Rattle.ppp_proving.specs.Calls.{Answered}
use Rattle.ppp_proving.specs.Which.{NoneOf, SomeOf}

pub some_later : {Does : Answered → List Answered → Type 0} {past : List Answered} → (h : Answered) → SomeOf Does past → SomeOf Does (h ∷ past)
some_later h s = record { later = h ∷ s.later; call = s.call; earlier = s.earlier; split = ap (λ calls. h ∷ calls) s.split; does = s.does }

pub some_now : {Does : Answered → List Answered → Type 0} (h : Answered) (past : List Answered) → Does h past → SomeOf Does (h ∷ past)
some_now h past d = record { later = []; call = h; earlier = past; split = refl; does = d }

none_split : (Does : Answered → List Answered → Type 0) (later : List Answered) (call : Answered) (earlier : List Answered) →
    NoneOf Does (later ++ call ∷ earlier) → Does call earlier → ⊥
none_split Does [] call earlier n d = n.0 d
none_split Does (h ∷ later) call earlier n d = none_split Does later call earlier n.1 d

pub none_some : (Does : Answered → List Answered → Type 0) {past : List Answered} → NoneOf Does past → SomeOf Does past → ⊥
none_some Does n s = none_split Does s.later s.call s.earlier (subst (λ (calls : List Answered). NoneOf Does calls) s.split n) s.does
