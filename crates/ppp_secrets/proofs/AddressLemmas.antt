-- Address words are what is spelled.
use Rattle.std.proofs.Common.{◌≡◌, ℕ, ◌≤◌, ◌⊎◌, Bool, true, false, cond, ◌&&◌, List, [], ◌∷◌, ◌++◌, length, Option, Some, None, refl, sym, ◌∙◌, ap, subst, inl, inr, arith}
use Rattle.std.specs.Prelude.{◌==◌, nat_le, All}
use Rattle.std.specs.List.{slice_split, onto_first, list_all, join_with_byte}
use Rattle.std.specs.Option.{option_map, option_and_then}
use Rattle.std.specs.Str.{bytes_eq}
use Rattle.std.specs.Int.{w32, from_be_bytes}
use Rattle.std.proofs.lemmas.Bool.{false_from_ne_true}
use Rattle.std.proofs.lemmas.Bool.Decides.{nat_tests}
use Rattle.std.proofs.lemmas.Slice.Eq.{bytes_eq-Decides}
use Rattle.std.proofs.lemmas.List.Splits.{slice_split_none, slice_split_at, join_with_byte-slice_split}
use Rattle.std.proofs.lemmas.List.Elements.{All-cons, All-nil}
use Rattle.ppp_base.specs.Numbers.{is_digit, number_within, number_of, all_some, four_octets, address_of}
use Rattle.ppp_base.specs.declared.numbers.LeadingZeros.TheVariants.{Lawful}
use Rattle.ppp_secrets.specs.declared.address_word.Cover.{Cover}
use Rattle.ppp_secrets.specs.declared.address_word.Cover.TheVariants.{Every, Subnet, Nothing}
use Rattle.ppp_secrets.specs.declared.address_word.AddressWord.{AddressWord}
use Rattle.ppp_secrets.specs.AddressWords.{subnet_at, subnet_of, cover_of, signed_of, address_word_of}
use Rattle.ppp_secrets.specs.AddressForms.{CoverForm, Star, Alone, WithBits, WordForm, Minus, Allowed, Refused, CoverMeans, WordMeans, cover_spelled, word_spelled, SpellsWord}

-- A number is digits.
number_digits : (most n : ℕ) (word : List ℕ) → number_of Lawful 0 most word ≡ Some n → list_all is_digit word ≡ true
number_digits most n [] e = refl
number_digits most n (first ∷ others) e = go (nat_le (length others) 9) (list_all is_digit (first ∷ others)) refl (λ t. t) e
  where
    go : (few digits : Bool) → list_all is_digit (first ∷ others) ≡ digits → (digits ≡ true → digits ≡ true) → cond few (number_within 0 most (first ∷ others)) None ≡ Some n → list_all is_digit (first ∷ others) ≡ true
    go few true is h e = is
    go true false is h e = absurd (let none : number_within 0 most (first ∷ others) ≡ None = rw is refl in cc)
    go false false is h e = absurd cc

a_digit_is : (octet : ℕ) → is_digit octet ≡ true → (48 ≤ octet) × (octet ≤ 57)
a_digit_is octet h = go (nat_le 48 octet) (nat_le octet 57) refl refl h
  where
    go : (low high : Bool) → nat_le 48 octet ≡ low → nat_le octet 57 ≡ high → (low && high) ≡ true → (48 ≤ octet) × (octet ≤ 57)
    go true true a b h = (grind (arith, nat_tests), grind (arith, nat_tests))
    go true false a b h = absurd cc
    go false high a b h = absurd cc

-- no slash among digits
no_slash : (octet : ℕ) → is_digit octet ≡ true → (octet == 47) ≡ false
no_slash octet h = let range : (48 ≤ octet) × (octet ≤ 57) = a_digit_is octet h in grind (arith, nat_tests)

all_parts : {A B : Bool} → (A && B) ≡ true → (A ≡ true) × (B ≡ true)
all_parts {A} {B} h = go A B h
  where
    go : (a b : Bool) → (a && b) ≡ true → (a ≡ true) × (b ≡ true)
    go true true h = (refl, refl)
    go true false h = absurd cc
    go false b h = absurd cc

digits_without : (word : List ℕ) → list_all is_digit word ≡ true → All (λ octet. (octet == 47) ≡ false) word
digits_without [] h = All-nil (λ (octet : ℕ). (octet == 47) ≡ false)
digits_without (x ∷ xs) h =
    let parts : (is_digit x ≡ true) × (list_all is_digit xs ≡ true) = all_parts {A = is_digit x} {B = list_all is_digit xs} h in
    All-cons (λ (octet : ℕ). (octet == 47) ≡ false) x xs (no_slash x parts.0) (digits_without xs parts.1)

-- parts of digits, with dots between them, have no slash
abbrev EachDigits : List (List ℕ) → Type 0
EachDigits [] = Unit {0}
EachDigits (part ∷ parts) = (list_all is_digit part ≡ true) × EachDigits parts

dotted_without : (word : List ℕ) → EachDigits (slice_split (λ octet. octet == 46) word) → All (λ octet. (octet == 47) ≡ false) word
dotted_without [] h = All-nil (λ (octet : ℕ). (octet == 47) ≡ false)
dotted_without (x ∷ xs) h = go (x == 46) refl (slice_split (λ octet. octet == 46) xs) (dotted_without xs) h
  where
    go : (test : Bool) → (x == 46) ≡ test → (parts : List (List ℕ)) → (EachDigits parts → All (λ octet. (octet == 47) ≡ false) xs) →
        EachDigits (cond test ([] ∷ parts) (onto_first x parts)) → All (λ octet. (octet == 47) ≡ false) (x ∷ xs)
    go true t parts rest h =
        let no : (x == 47) ≡ false = grind (arith, nat_tests) in
        All-cons (λ (octet : ℕ). (octet == 47) ≡ false) x xs no (rest h.1)
    go false t [] rest h =
        let first : (is_digit x ≡ true) × (true ≡ true) = all_parts {A = is_digit x} {B = true} h.0 in
        All-cons (λ (octet : ℕ). (octet == 47) ≡ false) x xs (no_slash x first.0) (rest tt)
    go false t (part ∷ parts) rest h =
        let first : (is_digit x ≡ true) × (list_all is_digit part ≡ true) = all_parts {A = is_digit x} {B = list_all is_digit part} h.0 in
        All-cons (λ (octet : ℕ). (octet == 47) ≡ false) x xs (no_slash x first.0) (rest (first.1, h.1))

-- four parts that are numbers are digits, and the first has one
four_digits : (parts : List (List ℕ)) (octets : List ℕ) → four_octets parts ≡ Some octets → EachDigits parts
four_digits [] octets e = absurd cc
four_digits (a ∷ []) octets e = absurd cc
four_digits (a ∷ b ∷ []) octets e = absurd cc
four_digits (a ∷ b ∷ c ∷ []) octets e = absurd cc
four_digits (a ∷ b ∷ c ∷ d ∷ more ∷ parts) octets e = absurd cc
four_digits (a ∷ b ∷ c ∷ d ∷ []) octets e =
    go (number_of Lawful 0 255 a) (number_of Lawful 0 255 b) (number_of Lawful 0 255 c) (number_of Lawful 0 255 d) refl refl refl refl e
  where
    go : (w x y z : Option ℕ) → number_of Lawful 0 255 a ≡ w → number_of Lawful 0 255 b ≡ x → number_of Lawful 0 255 c ≡ y → number_of Lawful 0 255 d ≡ z →
        all_some (w ∷ x ∷ y ∷ z ∷ []) ≡ Some octets → EachDigits (a ∷ b ∷ c ∷ d ∷ [])
    go (Some w) (Some x) (Some y) (Some z) p q r s e = (number_digits 255 w a p, (number_digits 255 x b q, (number_digits 255 y c r, (number_digits 255 z d s, tt))))
    go None x y z p q r s e = absurd cc
    go (Some w) None y z p q r s e = absurd cc
    go (Some w) (Some x) None z p q r s e = absurd cc
    go (Some w) (Some x) (Some y) None p q r s e = absurd cc

address_without : (word octets : List ℕ) → address_of word ≡ Some octets → All (λ octet. (octet == 47) ≡ false) word
unfolding address_of
address_without word octets e = dotted_without word (four_digits (slice_split (λ octet. octet == 46) word) octets e)

-- a first part that is a number has a digit
first_of_four : (parts : List (List ℕ)) (octets : List ℕ) → four_octets parts ≡ Some octets → (rest : List (List ℕ)) → parts ≡ [] ∷ rest → ⊥
first_of_four parts octets e [] is = let none : four_octets ([] ∷ []) ≡ Some octets = subst (λ p. four_octets p ≡ Some octets) is e in absurd cc
first_of_four parts octets e (b ∷ []) is = let none : four_octets ([] ∷ b ∷ []) ≡ Some octets = subst (λ p. four_octets p ≡ Some octets) is e in absurd cc
first_of_four parts octets e (b ∷ c ∷ []) is = let none : four_octets ([] ∷ b ∷ c ∷ []) ≡ Some octets = subst (λ p. four_octets p ≡ Some octets) is e in absurd cc
first_of_four parts octets e (b ∷ c ∷ d ∷ []) is = let none : four_octets ([] ∷ b ∷ c ∷ d ∷ []) ≡ Some octets = subst (λ p. four_octets p ≡ Some octets) is e in absurd cc
first_of_four parts octets e (b ∷ c ∷ d ∷ more ∷ rest) is = let none : four_octets ([] ∷ b ∷ c ∷ d ∷ more ∷ rest) ≡ Some octets = subst (λ p. four_octets p ≡ Some octets) is e in absurd cc

-- An address begins with a digit.
begins_with_digit : (word octets : List ℕ) → address_of word ≡ Some octets → (x : ℕ) × (xs : List ℕ) × (word ≡ x ∷ xs) × (is_digit x ≡ true)
unfolding address_of
begins_with_digit [] octets e = absurd (first_of_four ([] ∷ []) octets e [] refl)
begins_with_digit (x ∷ xs) octets e =
    go (x == 46) refl (slice_split (λ octet. octet == 46) xs) e
  where
    go : (test : Bool) → (x == 46) ≡ test → (parts : List (List ℕ)) → four_octets (cond test ([] ∷ parts) (onto_first x parts)) ≡ Some octets →
        (y : ℕ) × (ys : List ℕ) × (x ∷ xs ≡ y ∷ ys) × (is_digit y ≡ true)
    go true t parts e = absurd (first_of_four ([] ∷ parts) octets e parts refl)
    go false t [] e = let each : EachDigits ((x ∷ []) ∷ []) = four_digits ((x ∷ []) ∷ []) octets e in (x, xs, refl, (all_parts {A = is_digit x} {B = true} each.0).0)
    go false t (part ∷ parts) e = let each : EachDigits ((x ∷ part) ∷ parts) = four_digits ((x ∷ part) ∷ parts) octets e in (x, xs, refl, (all_parts {A = is_digit x} {B = list_all is_digit part} each.0).0)

unlike : (x octet : ℕ) (xs : List ℕ) → is_digit x ≡ true → (is_digit octet ≡ false) → bytes_eq (x ∷ xs) (octet ∷ []) ≡ false
unlike x octet xs digit other = false_from_ne_true (bytes_eq (x ∷ xs) (octet ∷ [])) (λ t.
    let same : x ∷ xs ≡ octet ∷ [] = (bytes_eq-Decides (x ∷ xs) (octet ∷ [])).0 t in
    let first : x ≡ octet = cc in
    let both : is_digit x ≡ is_digit octet = ap is_digit first in
    cc)

-- what begins with a digit is a subnet or nothing
covers_from_digit : (word : List ℕ) (x : ℕ) (xs : List ℕ) → word ≡ x ∷ xs → is_digit x ≡ true → cover_of word ≡ subnet_of word
covers_from_digit word x xs is digit = rw is (let no : bytes_eq (x ∷ xs) (42 ∷ []) ≡ false = unlike x 42 xs digit refl in rw no refl)

word_from_digit : (word : List ℕ) (x : ℕ) (xs : List ℕ) → word ≡ x ∷ xs → is_digit x ≡ true →
    address_word_of word ≡ option_map (λ cover. record { allows = true; cover = cover }) (cover_of word)
unfolding address_word_of
word_from_digit word x xs is digit =
    let range : (48 ≤ x) × (x ≤ 57) = a_digit_is x digit in
    let no : bytes_eq (x ∷ xs) (45 ∷ []) ≡ false = unlike x 45 xs digit refl in
    let plain : (x == 33) ≡ false = grind (arith, nat_tests) in
    rw is (rw (no, plain) refl)

one_part : (word octets : List ℕ) → address_of word ≡ Some octets → slice_split (λ octet. octet == 47) word ≡ word ∷ []
one_part word octets e = slice_split_none (λ (octet : ℕ). octet == 47) word (address_without word octets e)

two_parts : (word octets bits : List ℕ) (n : ℕ) → address_of word ≡ Some octets → number_of Lawful 0 32 bits ≡ Some n → slice_split (λ octet. octet == 47) (word ++ 47 ∷ bits) ≡ word ∷ bits ∷ []
two_parts word octets bits n e b =
    slice_split_at (λ (octet : ℕ). octet == 47) word 47 bits (address_without word octets e) refl
    ∙ ap (λ rest. word ∷ rest) (slice_split_none (λ (octet : ℕ). octet == 47) bits (digits_without bits (number_digits 32 n bits b)))

-- what a form covers is read of what it spells
cover_back : (form : CoverForm) (cover : Cover) → CoverMeans form cover → cover_of (cover_spelled form) ≡ Some cover
unfolding subnet_of
cover_back Star cover m = ap Some (sym m)
cover_back (Alone word) cover m =
    let first : (x : ℕ) × (xs : List ℕ) × (word ≡ x ∷ xs) × (is_digit x ≡ true) = begins_with_digit word m.0 m.1 in
    covers_from_digit word first.0 first.1 first.2 first.3
    ∙ ap subnet_at (one_part word m.0 m.1) ∙ rw m.1 (ap Some (sym m.2))
cover_back (WithBits word bits) cover m =
    let first : (x : ℕ) × (xs : List ℕ) × (word ≡ x ∷ xs) × (is_digit x ≡ true) = begins_with_digit word m.0 m.2 in
    let begins : word ++ 47 ∷ bits ≡ first.0 ∷ (first.1 ++ 47 ∷ bits) = ap (λ front. front ++ 47 ∷ bits) first.2 in
    covers_from_digit (word ++ 47 ∷ bits) first.0 (first.1 ++ 47 ∷ bits) begins first.3
    ∙ ap subnet_at (two_parts word m.0 bits m.1 m.2 m.3) ∙ rw (m.2, m.3) (ap Some (sym m.4))

starts_with_digit : (form : CoverForm) (cover : Cover) → CoverMeans form cover → (form ≡ Star) ⊎ ((x : ℕ) × (xs : List ℕ) × (cover_spelled form ≡ x ∷ xs) × (is_digit x ≡ true))
starts_with_digit Star cover m = inl refl
starts_with_digit (Alone word) cover m = inr (begins_with_digit word m.0 m.1)
starts_with_digit (WithBits word bits) cover m =
    let first : (x : ℕ) × (xs : List ℕ) × (word ≡ x ∷ xs) × (is_digit x ≡ true) = begins_with_digit word m.0 m.2 in
    inr (first.0, first.1 ++ 47 ∷ bits, ap (λ front. front ++ 47 ∷ bits) first.2, first.3)

-- What is spelled is read as what it means.
spelled_back : (form : WordForm) (word : AddressWord) → WordMeans form word → address_word_of (word_spelled form) ≡ Some word
unfolding address_word_of
spelled_back Minus word m = ap Some (sym m)
spelled_back (Refused form) word m = rw (cover_back form word.cover m.0) (ap Some (ap (λ (allows : Bool). record { allows = allows; cover = word.cover }) (sym m.1)))
spelled_back (Allowed form) word m = go (starts_with_digit form word.cover m.0)
  where
    made : record { allows = true; cover = word.cover } ≡ word
    made = ap (λ (allows : Bool). record { allows = allows; cover = word.cover }) (sym m.1)

    star : form ≡ Star → address_word_of (cover_spelled form) ≡ Some word
    star is = let every : word.cover ≡ Every = subst (λ f. CoverMeans f word.cover) is m.0 in
        rw is (ap Some (ap (λ (cover : Cover). record { allows = true; cover = cover }) (sym every) ∙ made))

    go : (form ≡ Star) ⊎ ((x : ℕ) × (xs : List ℕ) × (cover_spelled form ≡ x ∷ xs) × (is_digit x ≡ true)) → address_word_of (cover_spelled form) ≡ Some word
    go (inl is) = star is
    go (inr first) = word_from_digit (cover_spelled form) first.0 first.1 first.2 first.3
        ∙ ap (λ read. option_map (λ cover. record { allows = true; cover = cover }) read) (cover_back form word.cover m.0) ∙ ap Some made

-- what is read as a cover is spelled by a form
cover_spelled_of : (word : List ℕ) (cover : Cover) → cover_of word ≡ Some cover → (form : CoverForm) × (word ≡ cover_spelled form) × CoverMeans form cover
unfolding subnet_of
cover_spelled_of word cover e = go (bytes_eq word (42 ∷ [])) refl e
  where
    alone : (address : List ℕ) → word ≡ address → (read : Option (List ℕ)) → address_of address ≡ read →
        option_map (λ network. Subnet network 32) (option_map (from_be_bytes w32) read) ≡ Some cover → (form : CoverForm) × (word ≡ cover_spelled form) × CoverMeans form cover
    alone address is None a e = absurd cc
    alone address is (Some octets) a e = (Alone address, is, (octets, a, cc))

    with_bits : (address bits : List ℕ) → word ≡ address ++ 47 ∷ bits → (read : Option (List ℕ)) (number : Option ℕ) → address_of address ≡ read → number_of Lawful 0 32 bits ≡ number →
        option_and_then (λ network. option_map (Subnet network) number) (option_map (from_be_bytes w32) read) ≡ Some cover → (form : CoverForm) × (word ≡ cover_spelled form) × CoverMeans form cover
    with_bits address bits is None number a b e = absurd cc
    with_bits address bits is (Some octets) None a b e = absurd cc
    with_bits address bits is (Some octets) (Some n) a b e = (WithBits address bits, is, (octets, n, a, b, cc))

    parts_of_word : (parts : List (List ℕ)) → join_with_byte 47 parts ≡ word → subnet_at parts ≡ Some cover → (form : CoverForm) × (word ≡ cover_spelled form) × CoverMeans form cover
    parts_of_word [] j e = absurd cc
    parts_of_word (address ∷ []) j e = alone address (sym j) (address_of address) refl e
    parts_of_word (address ∷ bits ∷ []) j e = with_bits address bits (sym j) (address_of address) (number_of Lawful 0 32 bits) refl refl e
    parts_of_word (address ∷ bits ∷ more ∷ parts) j e = absurd cc

    go : (test : Bool) → bytes_eq word (42 ∷ []) ≡ test → cond test (Some Every) (subnet_of word) ≡ Some cover → (form : CoverForm) × (word ≡ cover_spelled form) × CoverMeans form cover
    go true t e = (Star, (bytes_eq-Decides word (42 ∷ [])).0 t, cc)
    go false t e = parts_of_word (slice_split (λ octet. octet == 47) word) (join_with_byte-slice_split 47 word) e

abbrev with_sign : Bool → Cover → AddressWord
with_sign allows cover = record { allows = allows; cover = cover }

-- What is read is spelled.
spelled_of : (octets : List ℕ) (word : AddressWord) → address_word_of octets ≡ Some word → SpellsWord octets word
unfolding address_word_of
spelled_of octets word e = go (bytes_eq octets (45 ∷ [])) refl e
  where
    refused : (rest : List ℕ) → octets ≡ 33 ∷ rest → (read : Option Cover) → cover_of rest ≡ read → option_map (with_sign false) read ≡ Some word → SpellsWord octets word
    refused rest is None c e = absurd cc
    refused rest is (Some cover) c e =
        let found : (form : CoverForm) × (rest ≡ cover_spelled form) × CoverMeans form cover = cover_spelled_of rest cover c in
        let same : with_sign false cover ≡ word = cc in
        record { form = Refused found.0; spells = is ∙ ap (λ behind. 33 ∷ behind) found.1; means = (subst (CoverMeans found.0) (ap (λ word. word.cover) same) found.2, sym (ap (λ word. word.allows) same)) }

    allowed : (read : Option Cover) → cover_of octets ≡ read → option_map (with_sign true) read ≡ Some word → SpellsWord octets word
    allowed None c e = absurd cc
    allowed (Some cover) c e =
        let found : (form : CoverForm) × (octets ≡ cover_spelled form) × CoverMeans form cover = cover_spelled_of octets cover c in
        let same : with_sign true cover ≡ word = cc in
        record { form = Allowed found.0; spells = found.1; means = (subst (CoverMeans found.0) (ap (λ word. word.cover) same) found.2, sym (ap (λ word. word.allows) same)) }

    signed : (xs : List ℕ) → octets ≡ xs → signed_of xs ≡ Some word → SpellsWord octets word
    signed [] is e = absurd cc
    signed (x ∷ xs) is e = sign (x == 33) refl e
      where
        sign : (test : Bool) → (x == 33) ≡ test → cond test (option_map (with_sign false) (cover_of xs)) (option_map (with_sign true) (cover_of (x ∷ xs))) ≡ Some word → SpellsWord octets word
        sign true t e = let first : x ≡ 33 = grind (arith, nat_tests) in refused xs (is ∙ ap (λ y. y ∷ xs) first) (cover_of xs) refl e
        sign false t e = allowed (cover_of octets) refl (rw is e)

    go : (test : Bool) → bytes_eq octets (45 ∷ []) ≡ test → cond test (Some (record { allows = false; cover = Nothing })) (signed_of octets) ≡ Some word → SpellsWord octets word
    go true t e = record { form = Minus; spells = (bytes_eq-Decides octets (45 ∷ [])).0 t; means = cc }
    go false t e = signed octets refl e

pub words_spelled : (octets : List ℕ) (word : AddressWord) → (address_word_of octets ≡ Some word → SpellsWord octets word) × (SpellsWord octets word → address_word_of octets ≡ Some word)
words_spelled octets word = (spelled_of octets word, λ s. ap address_word_of s.spells ∙ spelled_back s.form word s.means)
