-- How many sections words have.
use Rattle.std.proofs.Common.{◌≡◌, ◌+◌, ◌≤◌, Bool, true, false, cond, List, [], ◌∷◌, ◌++◌, length, refl, arith}
use Rattle.std.proofs.lemmas.List.Splits.{length-slice_split}
use Rattle.std.specs.Prelude.{if◌then◌else◌}
use Rattle.std.specs.List.{slice_split, onto_first}
use Rattle.ppp_option_words.specs.Picks.{is_link}
use Rattle.ppp_option_words.specs.declared.item.Item.{Item}

pub some_section : (xs : List Item) → 1 ≤ length (slice_split is_link xs)
some_section xs = rw (length-slice_split is_link xs) (omega arith)

onto_length : (x : Item) (parts : List (List Item)) → 1 ≤ length parts → length (onto_first x parts) ≡ length parts
onto_length x [] some = absurd (omega arith)
onto_length x (part ∷ parts) some = refl

-- one item more
pub sections_one_more : (xs : List Item) (x : Item) → length (slice_split is_link (xs ++ x ∷ [])) ≡ (if is_link x then length (slice_split is_link xs) + 1 else length (slice_split is_link xs))
sections_one_more [] x = go (is_link x)
  where
    go : (test : Bool) → length (cond test ([] ∷ [] ∷ []) (onto_first x ([] ∷ []))) ≡ (if test then 1 + 1 else 1)
    go true = refl
    go false = refl
sections_one_more (y ∷ ys) x = go (is_link y) (is_link x) (sections_one_more ys x)
  where
    go : (test last : Bool) → length (slice_split is_link (ys ++ x ∷ [])) ≡ (if last then length (slice_split is_link ys) + 1 else length (slice_split is_link ys))
        → length (cond test ([] ∷ slice_split is_link (ys ++ x ∷ [])) (onto_first y (slice_split is_link (ys ++ x ∷ []))))
        ≡ (if last then length (cond test ([] ∷ slice_split is_link ys) (onto_first y (slice_split is_link ys))) + 1
        else length (cond test ([] ∷ slice_split is_link ys) (onto_first y (slice_split is_link ys))))
    go true true rest = omega arith
    go true false rest = omega arith
    go false last rest =
        rw (onto_length y (slice_split is_link (ys ++ x ∷ [])) (some_section (ys ++ x ∷ [])), onto_length y (slice_split is_link ys) (some_section ys)) rest
