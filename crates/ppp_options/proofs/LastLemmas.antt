-- The last word that says something, from the front on.
use Rattle.std.proofs.Common.{◌≡◌, ◌∙◌, ◌-◌, ◌<◌, ◌≤◌, length, take, drop, get_or, ℕ, bit_or, List, [], ◌∷◌, ◌++◌, Option, Some, None, max, refl, sym, arith}
use Rattle.std.proofs.Math.Seq.{take-length}
use Rattle.std.proofs.lemmas.Nat.Bits.{bit_at_or, same_from_bits}
use Rattle.std.specs.Int.{bit_at}
use Rattle.std.specs.Int.Bits.{or_zero_r}
use Rattle.std.specs.Option.{option_or}
use Rattle.ppp_options.specs.Last.{last_of}
use Rattle.ppp_options.specs.LinkOf.{asyncmap_of}
use Rattle.ppp_option_words.specs.Picks.{asyncmap_in}
use Rattle.ppp_option_words.specs.declared.item.Item.{Item}

pub option_or_option_or : {X : Type 0} (a b c : Option X) → option_or (option_or a b) c ≡ option_or a (option_or b c)
option_or_option_or None b c = refl
option_or_option_or (Some x) b c = refl

pub option_or_none : {X : Type 0} (a : Option X) → option_or a None ≡ a
option_or_none None = refl
option_or_none (Some x) = refl

-- of two lists the second is looked at first
pub last_of_append : {X Y : Type 0} (says : X → Option Y) (xs ys : List X) → last_of says (xs ++ ys) ≡ option_or (last_of says ys) (last_of says xs)
last_of_append says [] ys = rw (option_or_none (last_of says ys)) refl
last_of_append says (x ∷ xs) ys = rw (last_of_append says xs ys, option_or_option_or (last_of says ys) (last_of says xs) (says x)) refl

most_of_three : (a b c : ℕ) → max (max a b) c ≡ max a (max b c)
most_of_three a b c = omega arith

-- joining goes in any order
pub or_or : (a b c : ℕ) → bit_or (bit_or a b) c ≡ bit_or a (bit_or b c)
or_or a b c = same_from_bits (bit_or (bit_or a b) c) (bit_or a (bit_or b c))
    (λ i. rw (bit_at_or (bit_or a b) c i, bit_at_or a b i, bit_at_or a (bit_or b c) i, bit_at_or b c i) (most_of_three (bit_at a i) (bit_at b i) (bit_at c i)))

pub or_nothing : (a : ℕ) → bit_or a 0 ≡ a
or_nothing a = or_zero_r a

-- the octets of two lists are joined
pub asyncmap_append : (xs ys : List Item) → asyncmap_of (xs ++ ys) ≡ bit_or (asyncmap_of xs) (asyncmap_of ys)
asyncmap_append [] ys = refl
asyncmap_append (x ∷ xs) ys = rw (asyncmap_append xs ys) (sym (or_or (asyncmap_in x) (asyncmap_of xs) (asyncmap_of ys)))

-- one word more
pub asyncmap_goes_on : (map : ℕ) (left : List Item) (said : Item) (more all : ℕ) → 1 ≤ length left → said ≡ get_or left 0 said → more ≡ asyncmap_in said
    → bit_or map (asyncmap_of left) ≡ all → bit_or (bit_or map more) (asyncmap_of (take (length left - 1) (drop 1 left))) ≡ all
asyncmap_goes_on map [] said more all some is means before = absurd (omega arith)
asyncmap_goes_on map (first ∷ rest) said more all some is means before =
    let size : length (first ∷ rest) - 1 ≡ length rest = omega arith in
    let others : take (length (first ∷ rest) - 1) rest ≡ rest = rw size (take-length rest) in
    rw (others, means, is, or_or map (asyncmap_in first) (asyncmap_of rest)) before

pub asyncmap_ends : (map : ℕ) (left : List Item) (all : ℕ) → length left < 1 → bit_or map (asyncmap_of left) ≡ all → map ≡ all
asyncmap_ends map [] all few before = sym (or_nothing map) ∙ before
asyncmap_ends map (first ∷ rest) all few before = absurd (omega arith)
