-- The options of chat as data, how they are written, and what they say together (chat(8), "Options").
use Rattle.std.specs.Prelude.{◌≡◌, ℕ, ◌+◌, ◌≤◌, nat_le, Bool, true, false, if◌then◌else◌, List, [], ◌∷◌, length, codes, Option, Some, None, is_some}
use Rattle.std.specs.List.{AllByRecursion}
use Rattle.std.specs.Option.{option_or}
use Rattle.ppp_base.specs.Numbers.{number_of}
use Rattle.ppp_base.specs.declared.numbers.LeadingZeros.TheVariants.{Lawful}
use Rattle.ppp_chat_words.specs.Front.{begins_with_hyphen, keyword_of}
use Rattle.ppp_chat_words.specs.declared.keyword.Keyword.TheVariants.{Quiet}

pub data Said : Type 0 where
  -- -v, -V, -s or -S
  Quietly : List ℕ → Said
  -- -t and its value
  After : List ℕ → Said
  -- -f and its value
  From : List ℕ → Said
  -- -L and its value
  Dials : List ℕ → Said

abbrev pub said_spelled : Said → List (List ℕ)
said_spelled (Quietly word) = word ∷ []
said_spelled (After value) = codes "-t" ∷ value ∷ []
said_spelled (From name) = codes "-f" ∷ name ∷ []
said_spelled (Dials line) = codes "-L" ∷ line ∷ []

abbrev pub is_from : Said → Bool
is_from (From name) = true
is_from other = false

abbrev pub is_dials : Said → Bool
is_dials (Dials line) = true
is_dials other = false

-- A timeout is a number from 1 to 65535; what is dialled has at most 255 octets, and stands where `dials` is.
abbrev pub IsOption : Bool → Said → Type 0
IsOption dials (Quietly word) = (begins_with_hyphen word ≡ true) × (keyword_of word ≡ Some Quiet)
IsOption dials (After value) = is_some (number_of Lawful 1 65535 value) ≡ true
IsOption dials (From name) = Unit {0}
IsOption dials (Dials line) = (dials ≡ true) × (nat_le (length line) 255 ≡ true)

abbrev pub counted : (Said → Bool) → List Said → ℕ
counted test [] = 0
counted test (said ∷ options) = if test said then counted test options + 1 else counted test options

-- Options that may stand together: -f and -L once at most.
pub record AreOptions (dials : Bool) (options : List Said) : Type 0 where
  pub each : AllByRecursion (IsOption dials) options
  pub files : counted is_from options ≤ 1
  pub lines : counted is_dials options ≤ 1

-- the seconds of the last -t
abbrev pub seconds_in : Said → Option ℕ
seconds_in (After value) = number_of Lawful 1 65535 value
seconds_in other = None

abbrev pub last_seconds : List Said → Option ℕ
last_seconds [] = None
last_seconds (said ∷ options) = option_or (last_seconds options) (seconds_in said)

-- the place of an option's value: the words in front of it, counted from this place on
abbrev pub value_place : (Said → Bool) → ℕ → List Said → Option ℕ
value_place test place [] = None
value_place test place (said ∷ options) = if test said then Some (place + 1) else value_place test (place + length (said_spelled said)) options

-- a script: no words, or words of which the first begins without a hyphen
abbrev pub IsScript : List (List ℕ) → Type 0
IsScript [] = Unit {0}
IsScript (word ∷ words) = begins_with_hyphen word ≡ false
