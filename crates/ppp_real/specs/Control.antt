-- What a control hears of a line.
use Rattle.std.specs.Prelude.{◌≡◌, ◌≢◌, ◌⊎◌, ℕ, List, [], ◌∷◌, ◌++◌, length, nat_lt, Option, Some, None, if◌then◌else◌}
use Rattle.ppp_base.specs.declared.signal_word.SignalWord.{SignalWord}
use Rattle.ppp_outside.specs.SignalNames.{signal_of}
use Rattle.ppp_real.specs.declared.control.Heard.{Heard}
use Rattle.ppp_real.specs.declared.control.Heard.TheVariants as heard

-- what a line's word is heard as
abbrev pub heard_as : Option SignalWord → Heard
heard_as (Some signal) = heard.Signal signal
heard_as None = heard.Nothing

-- the octets of a line after one more, of which there are 255 at most
abbrev pub with_octet : List ℕ → ℕ → List ℕ
with_octet line octet = if nat_lt (length line) 255 then line ++ octet ∷ [] else line

-- One octet more of a line, of which these came before it: a newline ends the line, whose word is heard.
abbrev pub HearsOctet : ℕ → List ℕ → List ℕ → Option Heard → Type 0
HearsOctet octet before now answer =
    ((octet ≡ 10) × (answer ≡ Some (heard_as (signal_of before))) × (now ≡ []))
    ⊎ ((octet ≢ 10) × (answer ≡ None) × (now ≡ with_octet before octet))
