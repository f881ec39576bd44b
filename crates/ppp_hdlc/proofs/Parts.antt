-- One more octet, and the parts of a stream.
use Rattle.std.proofs.Common.{◌≡◌, ℕ, ◌<◌, true, false, not, cond, List, [], ◌∷◌, ◌++◌, length, map, append-nil, refl, ap, ◌∙◌, arith}
use Rattle.std.specs.List.{slice_split, onto_first, filter}
use Rattle.std.proofs.lemmas.List.Elements.{filter-append}
use Rattle.std.proofs.lemmas.List.Splits.{length-slice_split}
use Rattle.ppp_hdlc.specs.Frames.{Received, closed_parts, kept_octets, is_removed}
use Rattle.ppp_hdlc.specs.Octets.{is_flag}
use Rattle.ppp_hdlc.specs.Deframing.{open_part}

-- the parts with an octet behind the last of them
abbrev pub onto_last : ℕ → List (List ℕ) → List (List ℕ)
onto_last x [] = (x ∷ []) ∷ []
onto_last x (part ∷ []) = (part ++ x ∷ []) ∷ []
onto_last x (part ∷ next ∷ parts) = part ∷ onto_last x (next ∷ parts)

onto_first-append : (y : ℕ) (parts more : List (List ℕ)) → 0 < length parts → onto_first y (parts ++ more) ≡ onto_first y parts ++ more
onto_first-append y [] more some = absurd (omega arith)
onto_first-append y (part ∷ parts) more some = refl

onto_first-onto_last : (y x : ℕ) (parts : List (List ℕ)) → 0 < length parts → onto_first y (onto_last x parts) ≡ onto_last x (onto_first y parts)
onto_first-onto_last y x [] some = absurd (omega arith)
onto_first-onto_last y x (part ∷ []) some = refl
onto_first-onto_last y x (part ∷ next ∷ parts) some = refl

split_some : (xs : List ℕ) → 0 < length (slice_split is_flag xs)
split_some xs = omega (arith, length-slice_split is_flag xs)

split-flag : (xs : List ℕ) (x : ℕ) → is_flag x ≡ true → slice_split is_flag (xs ++ x ∷ []) ≡ slice_split is_flag xs ++ [] ∷ []
split-flag [] x flag = rw flag refl
split-flag (y ∷ ys) x flag =
    rw (split-flag ys x flag)
    (elim (is_flag y) as (λ b. cond b ([] ∷ (slice_split is_flag ys ++ [] ∷ [])) (onto_first y (slice_split is_flag ys ++ [] ∷ [])) ≡ cond b ([] ∷ slice_split is_flag ys) (onto_first y (slice_split is_flag ys)) ++ [] ∷ [])
    [ true ↦ refl | false ↦ onto_first-append y (slice_split is_flag ys) ([] ∷ []) (split_some ys) ])

split-other : (xs : List ℕ) (x : ℕ) → is_flag x ≡ false → slice_split is_flag (xs ++ x ∷ []) ≡ onto_last x (slice_split is_flag xs)
split-other [] x other = rw other refl
split-other (y ∷ ys) x other =
    rw (split-other ys x other)
    (elim (is_flag y) as (λ b. cond b ([] ∷ onto_last x (slice_split is_flag ys)) (onto_first y (onto_last x (slice_split is_flag ys))) ≡ onto_last x (cond b ([] ∷ slice_split is_flag ys) (onto_first y (slice_split is_flag ys))))
    [ true ↦ onto_last-cons [] x (slice_split is_flag ys) (split_some ys) | false ↦ onto_first-onto_last y x (slice_split is_flag ys) (split_some ys) ])
  where
    onto_last-cons : (part : List ℕ) (x : ℕ) (parts : List (List ℕ)) → 0 < length parts → part ∷ onto_last x parts ≡ onto_last x (part ∷ parts)
    onto_last-cons part x [] some = absurd (omega arith)
    onto_last-cons part x (next ∷ parts) some = refl

closed-append : (parts : List (List ℕ)) (more : List ℕ) → 0 < length parts → closed_parts (parts ++ more ∷ []) ≡ closed_parts parts ++ open_part parts ∷ []
closed-append [] more some = absurd (omega arith)
closed-append (part ∷ []) more some = refl
closed-append (part ∷ next ∷ parts) more some = ap (λ ps. part ∷ ps) (closed-append (next ∷ parts) more (omega arith))

open-append : (parts : List (List ℕ)) (more : List ℕ) → open_part (parts ++ more ∷ []) ≡ more
open-append [] more = refl
open-append (part ∷ []) more = refl
open-append (part ∷ next ∷ parts) more = open-append (next ∷ parts) more

closed-onto_last : (x : ℕ) (parts : List (List ℕ)) → closed_parts (onto_last x parts) ≡ closed_parts parts
closed-onto_last x [] = refl
closed-onto_last x (part ∷ []) = refl
closed-onto_last x (part ∷ next ∷ []) = refl
closed-onto_last x (part ∷ next ∷ third ∷ parts) = ap (λ ps. part ∷ ps) (closed-onto_last x (next ∷ third ∷ parts))

open-onto_last : (x : ℕ) (parts : List (List ℕ)) → open_part (onto_last x parts) ≡ open_part parts ++ x ∷ []
open-onto_last x [] = refl
open-onto_last x (part ∷ []) = refl
open-onto_last x (part ∷ next ∷ []) = refl
open-onto_last x (part ∷ next ∷ third ∷ parts) = open-onto_last x (next ∷ third ∷ parts)

-- A flag closes the open part, and opens an empty one.
pub closed-flag : (xs : List ℕ) (x : ℕ) → is_flag x ≡ true → closed_parts (slice_split is_flag (xs ++ x ∷ [])) ≡ closed_parts (slice_split is_flag xs) ++ open_part (slice_split is_flag xs) ∷ []
closed-flag xs x flag = rw (split-flag xs x flag) (closed-append (slice_split is_flag xs) [] (split_some xs))

pub open-flag : (xs : List ℕ) (x : ℕ) → is_flag x ≡ true → open_part (slice_split is_flag (xs ++ x ∷ [])) ≡ []
open-flag xs x flag = rw (split-flag xs x flag) (open-append (slice_split is_flag xs) [])

-- Another octet goes behind the open part.
pub closed-other : (xs : List ℕ) (x : ℕ) → is_flag x ≡ false → closed_parts (slice_split is_flag (xs ++ x ∷ [])) ≡ closed_parts (slice_split is_flag xs)
closed-other xs x other = rw (split-other xs x other) (closed-onto_last x (slice_split is_flag xs))

pub open-other : (xs : List ℕ) (x : ℕ) → is_flag x ≡ false → open_part (slice_split is_flag (xs ++ x ∷ [])) ≡ open_part (slice_split is_flag xs) ++ x ∷ []
open-other xs x other = rw (split-other xs x other) (open-onto_last x (slice_split is_flag xs))

-- An octet that is removed changes nothing, and another one is kept.
map-first-append : (xs ys : List Received) → map (λ (r : Received). r.0) (xs ++ ys) ≡ map (λ (r : Received). r.0) xs ++ map (λ (r : Received). r.0) ys
map-first-append [] ys = refl
map-first-append (x ∷ xs) ys = ap (λ l. x.0 ∷ l) (map-first-append xs ys)

pub kept-append : (xs ys : List Received) → kept_octets (xs ++ ys) ≡ kept_octets xs ++ kept_octets ys
kept-append xs ys = rw (filter-append (λ (r : Received). not (is_removed r)) xs ys) (map-first-append (filter (λ (r : Received). not (is_removed r)) xs) (filter (λ (r : Received). not (is_removed r)) ys))

pub kept-removed : (stream : List Received) (r : Received) → is_removed r ≡ true → kept_octets (stream ++ r ∷ []) ≡ kept_octets stream
kept-removed stream r removed = kept-append stream (r ∷ []) ∙ rw removed (simp append-nil)

pub kept-other : (stream : List Received) (r : Received) → is_removed r ≡ false → kept_octets (stream ++ r ∷ []) ≡ kept_octets stream ++ r.0 ∷ []
kept-other stream r other = kept-append stream (r ∷ []) ∙ rw other refl
