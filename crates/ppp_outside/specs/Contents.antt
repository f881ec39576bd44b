-- What a call does to a list that an object may tell: what it still holds, or what it has kept.
use Rattle.std.specs.Prelude.{◌≡◌, Option, Some, List, [], ◌++◌, IfSome, option_map}

-- What is left begins with this front, and loses it.
abbrev pub LosesFront : {A : Type 0} → List A → Option (List A) → Option (List A) → Type 0
LosesFront front before now = before ≡ option_map (λ left. front ++ left) now

-- What is kept grows by these at its end.
abbrev pub GrowsBy : {A : Type 0} → List A → Option (List A) → Option (List A) → Type 0
GrowsBy added before now = now ≡ option_map (λ kept. kept ++ added) before

-- The same, where it is still told afterwards.
abbrev pub GrowsWhereTold : {A : Type 0} → List A → Option (List A) → Option (List A) → Type 0
GrowsWhereTold added before now = IfSome now (λ kept. GrowsBy added before (Some kept))

-- Where it is told, there is nothing.
abbrev pub HasNothing : {A : Type 0} → Option (List A) → Type 0
HasNothing told = IfSome told (λ list. list ≡ [])
