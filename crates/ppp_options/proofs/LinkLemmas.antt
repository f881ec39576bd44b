-- The sections of words, link by link.
use Rattle.std.proofs.Common.{◌≡◌, ℕ, ◌+◌, ◌-◌, ◌<◌, Bool, true, false, cond, List, [], ◌∷◌, ◌++◌, length, take, drop, not, Option, Some, None, Result, Ok, Err, refl, ap, sym, nat_lt, arith}
use Rattle.std.proofs.Math.Seq.{take-length}
use Rattle.std.proofs.lemmas.List.{append_assoc, length-drop}
use Rattle.std.proofs.lemmas.List.Splits.{slice_split_first}
use Rattle.std.specs.Prelude.{◌||◌, position}
use Rattle.std.specs.List.{list_any, position_or_len, slice_split, onto_first}
use Rattle.ppp_option_words.specs.LinkValues.{LinkValues}
use Rattle.ppp_option_words.specs.Picks.{is_link}
use Rattle.ppp_option_words.specs.Results.{ok_map}
use Rattle.ppp_options.specs.Scopes.{link_read, links_read, scopes_at, scopes_of, shared_with}
use Rattle.ppp_option_words.specs.declared.fault.OptionsFault.{OptionsFault}
use Rattle.ppp_option_words.specs.declared.item.Item.{Item}
use Rattle.ppp_option_words.specs.declared.item.Item.TheVariants as item

or_assoc : (a b c : Bool) → ((a || b) || c) ≡ (a || (b || c))
or_assoc true b c = refl
or_assoc false b c = refl

pub any_append : {X : Type 0} (test : X → Bool) (xs ys : List X) → list_any test (xs ++ ys) ≡ (list_any test xs || list_any test ys)
any_append test [] ys = refl
any_append test (x ∷ xs) ys = rw (any_append test xs ys, or_assoc (test x) (list_any test xs) (list_any test ys)) refl

-- behind a first section there is at least one more
pub each_shared : (shared xs : List Item) → scopes_at (shared ∷ slice_split is_link xs) ≡ shared_with shared (slice_split is_link xs)
each_shared shared [] = refl
each_shared shared (x ∷ xs) = go (is_link x) (slice_split is_link xs)
  where
    go : (test : Bool) (rest : List (List Item)) → scopes_at (shared ∷ cond test ([] ∷ rest) (onto_first x rest)) ≡ shared_with shared (cond test ([] ∷ rest) (onto_first x rest))
    go true rest = refl
    go false [] = refl
    go false (part ∷ parts) = refl

-- links so far before those that are left
abbrev pub before : List LinkValues → Result (List LinkValues) OptionsFault → Result (List LinkValues) OptionsFault
before links read = ok_map (λ (more : List LinkValues). links ++ more) read

map_map : (links : List LinkValues) (link : LinkValues) (read : Result (List LinkValues) OptionsFault)
    → before links (ok_map (λ (more : List LinkValues). link ∷ more) read) ≡ before (links ++ link ∷ []) read
map_map links link (Ok more) = ap (λ (all : List LinkValues). Ok all) (sym (append_assoc links (link ∷ []) more))
map_map links link (Err fault) = refl

pub one_more : (links : List LinkValues) (link : LinkValues) (scope : List Item) (scopes : List (List Item)) → link_read scope ≡ Ok link
    → before links (links_read (scope ∷ scopes)) ≡ before (links ++ link ∷ []) (links_read scopes)
one_more links link scope scopes is = rw is (map_map links link (links_read scopes))

pub faulty : (links : List LinkValues) (fault : OptionsFault) (scope : List Item) (scopes : List (List Item)) → link_read scope ≡ Err fault
    → before links (links_read (scope ∷ scopes)) ≡ Err fault
faulty links fault scope scopes is = rw is refl

-- how much is left
abbrev pub amount : Option (List Item) → ℕ
amount None = 0
amount (Some items) = length items + 1

-- the first section, where there is a link
pub section_some : (xs : List Item) (place : ℕ) → position is_link xs ≡ Some place
    → slice_split is_link xs ≡ take place xs ∷ slice_split is_link (take (length xs - (place + 1)) (drop (place + 1) xs))
section_some xs place is = go (nat_lt (position_or_len is_link xs) (length xs)) refl is
  where
    go : (test : Bool) → nat_lt (position_or_len is_link xs) (length xs) ≡ test → cond test (Some (position_or_len is_link xs)) None ≡ Some place
        → slice_split is_link xs ≡ take place xs ∷ slice_split is_link (take (length xs - (place + 1)) (drop (place + 1) xs))
    go true within is =
        let at : position_or_len is_link xs ≡ place = cc in
        let below : position_or_len is_link xs < length xs = grind arith in
        let size : length xs - (place + 1) ≡ length (drop (place + 1) xs) = sym (length-drop (place + 1) xs) in
        let split = slice_split_first is_link xs item.Link below in
        rw (size, take-length, ← at) split
    go false within is = cc

-- where there is none, all is one section
none_within : (xs : List Item) → nat_lt (position_or_len is_link xs) (length xs) ≡ false → slice_split is_link xs ≡ xs ∷ []
none_within [] none = refl
none_within (x ∷ xs) none = go (is_link x) (λ less. none_within xs less) none
  where
    go : (test : Bool) → (nat_lt (position_or_len is_link xs) (length xs) ≡ false → slice_split is_link xs ≡ xs ∷ [])
        → nat_lt (cond (not test) (1 + position_or_len is_link xs) 0) (length (x ∷ xs)) ≡ false
        → cond test ([] ∷ slice_split is_link xs) (onto_first x (slice_split is_link xs)) ≡ (x ∷ xs) ∷ []
    go true rest none = absurd (grind arith)
    go false rest none =
        let less : nat_lt (position_or_len is_link xs) (length xs) ≡ false = grind arith in
        rw (rest less) refl

pub section_none : (xs : List Item) → position is_link xs ≡ None → slice_split is_link xs ≡ xs ∷ []
section_none xs is = go (nat_lt (position_or_len is_link xs) (length xs)) refl is
  where
    go : (test : Bool) → nat_lt (position_or_len is_link xs) (length xs) ≡ test → cond test (Some (position_or_len is_link xs)) None ≡ None
        → slice_split is_link xs ≡ xs ∷ []
    go true within is = cc
    go false within is = none_within xs within

pub sections_shared : (items shared rest : List Item) → slice_split is_link items ≡ shared ∷ slice_split is_link rest
    → scopes_of items ≡ shared_with shared (slice_split is_link rest)
sections_shared items shared rest is = rw is (each_shared shared rest)
