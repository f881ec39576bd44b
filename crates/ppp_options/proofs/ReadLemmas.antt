-- All words as a whole.
use Rattle.std.proofs.Common.{◌≡◌, sym, refl, Option, ℕ, ◌≤◌, List, [], ◌∷◌, ◌++◌, length, Result, Ok, Err, arith}
use Rattle.std.proofs.lemmas.List.{append-nil, length-map}
use Rattle.std.specs.List.{slice_split}
use Rattle.ppp_options.proofs.SectionLemmas.{some_section}
use Rattle.ppp_options.specs.Last.{last_of}
use Rattle.ppp_options.specs.LinkOf.{number_of}
use Rattle.ppp_option_words.specs.LinkValues.{LinkValues}
use Rattle.ppp_option_words.specs.Picks.{is_link, text_in}
use Rattle.ppp_option_words.specs.Results.{ok_map, ok_then}
use Rattle.ppp_options.specs.Scopes.{link_read, links_read, scopes_at, scopes_of, shared_with}
use Rattle.ppp_option_words.specs.declared.fault.OptionsFault.{OptionsFault}
use Rattle.ppp_option_words.specs.declared.item.Item.{Item}
use Rattle.ppp_option_words.specs.declared.number.Number.{Number}
use Rattle.ppp_option_words.specs.declared.text.Text.{Text}

pub append_none : {X : Type 0} (xs : List X) → xs ++ [] ≡ xs
append_none xs = append-nil xs

-- options of the whole run are those of a scope with no words of its own
pub text_alone : (items : List Item) (word : Text) (said : Option (List ℕ)) → said ≡ last_of (text_in word) (items ++ []) → last_of (text_in word) items ≡ said
text_alone items word said is = sym (rw (append-nil items) at is)

pub number_alone : (items : List Item) (word : Number) (n : ℕ) → n ≡ number_of word (items ++ []) → number_of word items ≡ n
number_alone items word n is = sym (rw (append-nil items) at is)

-- as many links as scopes
read_length : (scopes : List (List Item)) (links : List LinkValues) → links_read scopes ≡ Ok links → length links ≡ length scopes
read_length [] links is = let none : [] ≡ links = cc in rw (← none) refl
read_length (scope ∷ scopes) links is = go (link_read scope) (links_read scopes) (λ rest. read_length scopes rest) is
  where
    go : (first : Result LinkValues OptionsFault) (more : Result (List LinkValues) OptionsFault)
        → ((rest : List LinkValues) → more ≡ Ok rest → length rest ≡ length scopes)
        → ok_then first (λ (link : LinkValues). ok_map (λ (all : List LinkValues). link ∷ all) more) ≡ Ok links → length links ≡ length (scope ∷ scopes)
    go (Ok link) (Ok rest) same is =
        let all : link ∷ rest ≡ links = cc in
        let size : length rest ≡ length scopes = same rest refl in
        rw (← all) (omega arith)
    go (Ok link) (Err fault) same is = cc
    go (Err fault) more same is = cc

few_of : (n m : ℕ) → n ≡ m → 1 ≤ m → m ≤ 16 → (1 ≤ n) × (n ≤ 16)
few_of n m same some few = (omega arith, omega arith)

few_scopes : (sections : List (List Item)) → 1 ≤ length sections → length sections ≤ 17 → (1 ≤ length (scopes_at sections)) × (length (scopes_at sections) ≤ 16)
few_scopes [] some few = absurd (omega arith)
few_scopes (only ∷ []) some few = few_of (length (only ∷ [])) 1 refl (omega arith) (omega arith)
few_scopes (shared ∷ own ∷ more) some few =
    few_of (length (shared_with shared (own ∷ more))) (length (own ∷ more)) (length-map (own ∷ more) (λ (mine : List Item). shared ++ mine)) (omega arith) (omega arith)

pub links_are_few : (items : List Item) (links : List LinkValues) → links_read (scopes_of items) ≡ Ok links → length (slice_split is_link items) ≤ 17
    → (1 ≤ length links) × (length links ≤ 16)
links_are_few items links is few =
    let scopes = few_scopes (slice_split is_link items) (some_section items) few in
    let size : length links ≡ length (scopes_of items) = read_length (scopes_of items) links is in
    few_of (length links) (length (scopes_of items)) size scopes.0 scopes.1
