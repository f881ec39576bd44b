-- Later words win, and a word for one link changes no other link.
use Rattle.std.proofs.Common.{◌≡◌, ◌≢◌, refl, ap, ℕ, zero, suc, ◌+◌, ◌≤◌, Bool, true, false, cond, List, [], ◌∷◌, ◌++◌, length, map, Option, Some, None, arith}
use Rattle.std.proofs.lemmas.List.Splits.{length-slice_split, slice_split_at, slice_split_none}
use Rattle.std.specs.Option.{option_or}
use Rattle.std.specs.List.{All, AllByRecursion, count_by, onto_first, slice_get, slice_split}
use Rattle.ppp_option_words.specs.Picks.{is_link}
use Rattle.ppp_option_words.specs.declared.item.Item.{Item}
use Rattle.ppp_option_words.specs.declared.item.Item.TheVariants as item
use Rattle.ppp_options.proofs.LastLemmas.{last_of_append}
use Rattle.ppp_options.proofs.SectionLemmas.{some_section}
use Rattle.ppp_options.specs.Last.{last_of}
use Rattle.ppp_options.specs.Scopes.{scopes_at, scopes_of}

nothing_said : {Y : Type 0} (says : Item → Option Y) (back : List Item) → AllByRecursion (λ (other : Item). says other ≡ None) back → last_of says back ≡ None
nothing_said says [] none = refl
nothing_said says (x ∷ xs) none = rw (nothing_said says xs none.1, none.0) refl

pub last_wins : {Y : Type 0} (says : Item → Option Y) (front back : List Item) (said : Item) (value : Y) → says said ≡ Some value
    → AllByRecursion (λ (other : Item). says other ≡ None) back → last_of says (front ++ said ∷ back) ≡ Some value
last_wins says front back said value is none = rw (last_of_append says front (said ∷ back), nothing_said says back none, is) refl

onto_append : (x : Item) (parts more : List (List Item)) → 1 ≤ length parts → onto_first x (parts ++ more) ≡ onto_first x parts ++ more
onto_append x [] more some = absurd (omega arith)
onto_append x (part ∷ parts) more some = refl

-- the sections of two lists with a `link` between them
split_behind : (front xs : List Item) → slice_split is_link (front ++ item.Link ∷ xs) ≡ slice_split is_link front ++ slice_split is_link xs
split_behind [] xs = refl
split_behind (y ∷ front) xs = go (is_link y) (split_behind front xs)
  where
    go : (test : Bool) → slice_split is_link (front ++ item.Link ∷ xs) ≡ slice_split is_link front ++ slice_split is_link xs
        → cond test ([] ∷ slice_split is_link (front ++ item.Link ∷ xs)) (onto_first y (slice_split is_link (front ++ item.Link ∷ xs)))
        ≡ cond test ([] ∷ slice_split is_link front) (onto_first y (slice_split is_link front)) ++ slice_split is_link xs
    go true rest = rw rest refl
    go false rest = rw rest (onto_append y (slice_split is_link front) (slice_split is_link xs) (some_section front))

-- lists that differ in one place
same_but_one : (f : List Item → List Item) (before after : List (List Item)) (own other : List Item) (i : ℕ) → i ≢ length before
    → slice_get (map f (before ++ own ∷ after)) i ≡ slice_get (map f (before ++ other ∷ after)) i
same_but_one f [] after own other zero apart = absurd (apart refl)
same_but_one f [] after own other (suc i) apart = refl
same_but_one f (part ∷ before) after own other zero apart = refl
same_but_one f (part ∷ before) after own other (suc i) apart = same_but_one f before after own other i (λ same. apart (omega (arith, same)))

stay : (front after : List (List Item)) (own other : List Item) (i : ℕ) → 1 ≤ length front → i + 1 ≢ length front
    → slice_get (scopes_at (front ++ own ∷ after)) i ≡ slice_get (scopes_at (front ++ other ∷ after)) i
stay [] after own other i some apart = absurd (omega arith)
stay (shared ∷ []) after own other i some apart =
    same_but_one (λ (mine : List Item). shared ++ mine) [] after own other i (λ same. apart (omega (arith, same)))
stay (shared ∷ first ∷ before) after own other i some apart =
    same_but_one (λ (mine : List Item). shared ++ mine) (first ∷ before) after own other i (λ same. apart (omega (arith, same)))

pub other_stays : (front xs ys own other : List Item) (after : List (List Item)) (i : ℕ) → slice_split is_link xs ≡ own ∷ after → slice_split is_link ys ≡ other ∷ after
    → i ≢ count_by is_link front → slice_get (scopes_of (front ++ item.Link ∷ xs)) i ≡ slice_get (scopes_of (front ++ item.Link ∷ ys)) i
other_stays front xs ys own other after i own_is other_is apart =
    rw (split_behind front xs, split_behind front ys, own_is, other_is)
    (stay (slice_split is_link front) after own other i (some_section front) (λ same. apart (omega (arith, same, length-slice_split is_link front))))

pub last_link_stays : (front own other : List Item) (i : ℕ) → All (λ (said : Item). is_link said ≡ false) own → All (λ (said : Item). is_link said ≡ false) other
    → i ≢ count_by is_link front → slice_get (scopes_of (front ++ item.Link ∷ own)) i ≡ slice_get (scopes_of (front ++ item.Link ∷ other)) i
last_link_stays front own other i own_none other_none apart =
    other_stays front own other own other [] i (slice_split_none is_link own own_none) (slice_split_none is_link other other_none) apart

pub link_within_stays : (front own other back : List Item) (i : ℕ) → All (λ (said : Item). is_link said ≡ false) own → All (λ (said : Item). is_link said ≡ false) other
    → i ≢ count_by is_link front
    → slice_get (scopes_of (front ++ item.Link ∷ (own ++ item.Link ∷ back))) i ≡ slice_get (scopes_of (front ++ item.Link ∷ (other ++ item.Link ∷ back))) i
link_within_stays front own other back i own_none other_none apart =
    other_stays front (own ++ item.Link ∷ back) (other ++ item.Link ∷ back) own other (slice_split is_link back) i
    (slice_split_at is_link own item.Link back own_none refl) (slice_split_at is_link other item.Link back other_none refl) apart
