-- The octets of words from a place on.
use Rattle.std.proofs.Common.{◌≡◌, ℕ, ◌+◌, ◌<◌, List, ◌∷◌, length, get_or, drop, drop-cons, add-one, refl}
use Rattle.std.specs.Global.{Vec}
use Rattle.ppp_chat_words.specs.Split.{octets_in}

pub octets_at : (i : ℕ) (words : List (Vec ℕ)) (word : Vec ℕ) → i < length words → word ≡ get_or words i word
    → octets_in (drop i words) ≡ word.items ∷ octets_in (drop (i + 1) words)
octets_at i words word within is = rw (add-one, drop-cons words i word, ← is) refl
