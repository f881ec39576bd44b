-- What options as data say of what is dialled and of the script's file (chat(8), "Options").
use Rattle.std.specs.Prelude.{ℕ, List, [], ◌∷◌, Option, None, Some}
use Rattle.ppp_chat_words.specs.Said.{Said, Quietly, After, From, Dials}

-- the value of -L
abbrev pub dialled : List Said → Option (List ℕ)
dialled [] = None
dialled (Dials line ∷ options) = Some line
dialled (Quietly word ∷ options) = dialled options
dialled (After value ∷ options) = dialled options
dialled (From name ∷ options) = dialled options

-- the value of -f
abbrev pub named : List Said → Option (List ℕ)
named [] = None
named (From name ∷ options) = Some name
named (Quietly word ∷ options) = named options
named (After value ∷ options) = named options
named (Dials line ∷ options) = named options
