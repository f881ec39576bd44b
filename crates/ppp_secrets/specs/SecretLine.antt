-- A line of a secrets file.
use Rattle.std.specs.Prelude.{◌≡◌, ℕ, ◌==◌, ◌&&◌, nat_lt, Bool, true, List, [], ◌∷◌, Option}
use Rattle.std.specs.List.{find}
use Rattle.ppp_secrets.specs.declared.address_word.AddressWord.{AddressWord}

-- the line's number in its file, from 1, its first three words, and its address words
pub record SecretLine : Type 0 where
  pub number : ℕ
  pub client : List ℕ
  pub server : List ℕ
  pub secret : List ℕ
  pub addresses : List AddressWord

-- the line with this number
abbrev pub line_numbered : ℕ → List SecretLine → Option SecretLine
line_numbered number lines = find (λ line. line.number == number) lines

-- whether each line has a greater number than the line before it, and the first a greater one than this
abbrev pub rise_above : ℕ → List SecretLine → Bool
rise_above number [] = true
rise_above number (line ∷ lines) = nat_lt number line.number && rise_above line.number lines

-- The numbers of the lines rise strictly, from 1 or more: no two lines have one number.
abbrev pub IsRising : List SecretLine → Type 0
IsRising lines = rise_above 0 lines ≡ true
