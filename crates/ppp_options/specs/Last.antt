-- The last word that says something.
use Rattle.std.specs.Prelude.{List, [], ◌∷◌, Option, None}
use Rattle.std.specs.Option.{option_or}

-- What the last item says that says something: the items behind one are looked at before it.
abbrev pub last_of : {X Y : Type 0} → (X → Option Y) → List X → Option Y
last_of says [] = None
last_of says (x ∷ xs) = option_or (last_of says xs) (says x)
