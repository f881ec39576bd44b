-- Which line is for two names.
use Rattle.std.proofs.Common.{◌≡◌, ℕ, ◌+◌, ◌<◌, ◌≤◌, Bool, true, false, cond, ◌&&◌, List, [], ◌∷◌, Option, Some, None, refl, sym, ◌∙◌, ap, subst, IfSome, inl, inr, arith}
use Rattle.std.specs.Prelude.{◌==◌, nat_lt, filter, Contains}
use Rattle.std.specs.List.{find}
use Rattle.std.specs.Option.{option_map}
use Rattle.std.proofs.lemmas.Bool.{false_from_ne_true}
use Rattle.std.proofs.lemmas.Bool.Decides.{nat_tests}
use Rattle.ppp_secrets.specs.SecretLine.{SecretLine, line_numbered, rise_above, IsRising}
use Rattle.ppp_secrets.specs.Lookup.{is_star, is_match, stars, IsLineFor, Lookup, has_fewest, line_for}
use Rattle.ppp_secrets.specs.Steps.{first_match, searched}
use Rattle.ppp_secrets.proofs.FewestLemmas.{In, in_from_contains, contains_from_in, in_filter, in_from_filter, find_filter, find_in, none_has_fewer, three_searches, some_has_fewest}

two_at_most : (a b : Bool) → cond a 1 0 + cond b 1 0 ≤ 2
two_at_most true true = omega arith
two_at_most true false = omega arith
two_at_most false true = omega arith
two_at_most false false = omega arith

few_stars : (line : SecretLine) → stars line ≤ 2
few_stars line = two_at_most (is_star line.client) (is_star line.server)

-- The three searches find the line for two names.
pub searched_is_line_for : (client server : List ℕ) (lines : List SecretLine) → searched client server lines ≡ line_for lines client server
unfolding searched line_for
searched_is_line_for client server lines =
    let at : (count : ℕ) → first_match client server count lines ≡ find (λ line. stars line == count) (filter (is_match client server) lines) =
    λ count. find_filter (is_match client server) (λ line. stars line == count) lines in
    rw (at 0, at 1, at 2) (three_searches stars (filter (is_match client server) lines) (λ line i. few_stars line))

-- numbers that rise from a number rise from a lower one
rise_lower : (low high : ℕ) (lines : List SecretLine) → low ≤ high → rise_above high lines ≡ true → rise_above low lines ≡ true
rise_lower low high [] h rise = refl
rise_lower low high (line ∷ lines) h rise = go (nat_lt high line.number) refl rise
  where
    go : (test : Bool) → nat_lt high line.number ≡ test → (test && rise_above line.number lines) ≡ true → rise_above low (line ∷ lines) ≡ true
    go true t rest = let above : nat_lt low line.number ≡ true = grind (arith, nat_tests) in rw (above, rest) refl
    go false t rest = absurd cc

rise_parts : (low : ℕ) (line : SecretLine) (lines : List SecretLine) → rise_above low (line ∷ lines) ≡ true → (low < line.number) × (rise_above line.number lines ≡ true)
rise_parts low line lines rise = go (nat_lt low line.number) refl rise
  where
    go : (test : Bool) → nat_lt low line.number ≡ test → (test && rise_above line.number lines) ≡ true → (low < line.number) × (rise_above line.number lines ≡ true)
    go true t rest = (grind (arith, nat_tests), rest)
    go false t rest = absurd cc

rise_filter : (p : SecretLine → Bool) (low : ℕ) (lines : List SecretLine) → rise_above low lines ≡ true → rise_above low (filter p lines) ≡ true
rise_filter p low [] rise = refl
rise_filter p low (line ∷ lines) rise =
    let parts : (low < line.number) × (rise_above line.number lines ≡ true) = rise_parts low line lines rise in
    go (p line) parts.0 (rise_filter p line.number lines parts.1)
  where
    go : (test : Bool) → low < line.number → rise_above line.number (filter p lines) ≡ true → rise_above low (cond test (line ∷ filter p lines) (filter p lines)) ≡ true
    go true h rest = let above : nat_lt low line.number ≡ true = grind (arith, nat_tests) in rw (above, rest) refl
    go false h rest = rise_lower low line.number (filter p lines) (omega arith) rest

above_all : (low : ℕ) (lines : List SecretLine) → rise_above low lines ≡ true → (line : SecretLine) → In line lines → low < line.number
above_all low [] rise line i = elim i [ ]
above_all low (first ∷ lines) rise line i =
    let parts : (low < first.number) × (rise_above first.number lines ≡ true) = rise_parts low first lines rise in
    go parts.0 (above_all first.number lines parts.1 line) i
  where
    go : low < first.number → (In line lines → first.number < line.number) → In line (first ∷ lines) → low < line.number
    go h rest (inl same) = let e : first.number ≡ line.number = ap (λ line. line.number) same in omega arith
    go h rest (inr j) = let later : first.number < line.number = rest j in omega arith

-- the first that passes a test has the least number of those that do
first_is_least : (p : SecretLine → Bool) (low : ℕ) (lines : List SecretLine) → rise_above low lines ≡ true → (line other : SecretLine) →
    find p lines ≡ Some line → In other lines → p other ≡ true → line.number ≤ other.number
first_is_least p low [] rise line other found i passes = elim i [ ]
first_is_least p low (first ∷ lines) rise line other found i passes =
    let parts : (low < first.number) × (rise_above first.number lines ≡ true) = rise_parts low first lines rise in
    go (p first) refl found i parts.1 (λ there j. first_is_least p first.number lines parts.1 line other there j passes)
  where
    go : (test : Bool) → p first ≡ test → cond test (Some first) (find p lines) ≡ Some line → In other (first ∷ lines) → rise_above first.number lines ≡ true →
        (find p lines ≡ Some line → In other lines → line.number ≤ other.number) → line.number ≤ other.number
    go true t here (inl same) rise later =
        let is : first ≡ line = cc in
        let e : line.number ≡ other.number = ap (λ line. line.number) (sym is ∙ same) in
        omega arith
    go true t here (inr j) rise later =
        let is : first ≡ line = cc in
        let e : first.number ≡ line.number = ap (λ line. line.number) is in
        let above : first.number < other.number = above_all first.number lines rise other j in
        omega arith
    go false t there (inl same) rise later = absurd (let e : p first ≡ p other = ap p same in cc)
    go false t there (inr j) rise later = later there j

-- Where numbers rise, a line that is kept is the one with its number.
numbered : (low : ℕ) (lines : List SecretLine) → rise_above low lines ≡ true → (line : SecretLine) → In line lines → line_numbered line.number lines ≡ Some line
numbered low [] rise line i = elim i [ ]
numbered low (first ∷ lines) rise line i =
    let parts : (low < first.number) × (rise_above first.number lines ≡ true) = rise_parts low first lines rise in
    go parts.1 (numbered first.number lines parts.1 line) i
  where
    go : rise_above first.number lines ≡ true → (In line lines → line_numbered line.number lines ≡ Some line) → In line (first ∷ lines) → line_numbered line.number (first ∷ lines) ≡ Some line
    go rise later (inl same) =
        let e : first.number ≡ line.number = ap (λ line. line.number) same in
        let test : (first.number == line.number) ≡ true = grind (arith, nat_tests) in
        rw test (ap Some same)
    go rise later (inr j) =
        let above : first.number < line.number = above_all first.number lines rise line j in
        let test : (first.number == line.number) ≡ false = grind (arith, nat_tests) in
        rw test (later j)

-- The line that is found is one for the two names.
pub found_is_for : (lines : List SecretLine) (client server : List ℕ) (line : SecretLine) → IsRising lines → line_for lines client server ≡ Some line → IsLineFor lines client server line
unfolding line_for
found_is_for lines client server line rise e =
    let matching : List SecretLine = filter (is_match client server) lines in
    let found : In line matching × (has_fewest matching line ≡ true) = find_in (has_fewest matching) matching line e in
    let from : In line lines × (is_match client server line ≡ true) = in_from_filter (is_match client server) lines line found.0 in
    let one_of : (other : SecretLine) → Contains lines other → is_match client server other ≡ true → In other matching =
    λ other c m. in_filter (is_match client server) lines other (in_from_contains lines other c) m in
    record {
      kept = contains_from_in lines line from.0;
      matches = from.1;
      fewest = λ other c m. none_has_fewer stars (stars line) matching found.1 other (one_of other c m);
      least = λ other c m same.
          first_is_least (has_fewest matching) 0 matching (rise_filter (is_match client server) 0 lines rise) line other e (one_of other c m)
          (let as_few : has_fewest matching other ≡ has_fewest matching line = rw same refl in as_few ∙ found.1);
    }

-- Where none is found, no line matches.
none_matches : (lines : List SecretLine) (client server : List ℕ) → line_for lines client server ≡ None → (line : SecretLine) → Contains lines line → is_match client server line ≡ false
unfolding line_for
none_matches lines client server e line c =
    let empty : filter (is_match client server) lines ≡ [] = some_has_fewest stars (filter (is_match client server) lines) (λ line i. few_stars line) e in
    false_from_ne_true (is_match client server line) (λ m. rw empty at (in_filter (is_match client server) lines line (in_from_contains lines line c) m))

pub numbered_as_kept : (lines : List SecretLine) → IsRising lines → (line : SecretLine) → Contains lines line → line_numbered line.number lines ≡ Some line
numbered_as_kept lines rise line c = numbered 0 lines rise line (in_from_contains lines line c)

-- Two names have one line at most.
pub one_line : (lines : List SecretLine) (client server : List ℕ) (line other : SecretLine) → IsRising lines →
    IsLineFor lines client server line → IsLineFor lines client server other → line ≡ other
one_line lines client server line other rise a b =
    let fewer : stars line ≤ stars other = a.fewest other b.kept b.matches in
    let more : stars other ≤ stars line = b.fewest line a.kept a.matches in
    let as_few : stars other ≡ stars line = omega arith in
    let lower : line.number ≤ other.number = a.least other b.kept b.matches as_few in
    let higher : other.number ≤ line.number = b.least line a.kept a.matches (sym as_few) in
    let same : line.number ≡ other.number = omega arith in
    let first : line_numbered line.number lines ≡ Some line = numbered_as_kept lines rise line a.kept in
    let second : line_numbered other.number lines ≡ Some other = numbered_as_kept lines rise other b.kept in
    cc

-- The line that is found, with its number, is what a lookup answers.
pub lookup_holds : (lines : List SecretLine) (client server : List ℕ) → IsRising lines → Lookup lines client server (option_map (λ line. line.number) (line_for lines client server))
lookup_holds lines client server rise = go (line_for lines client server) refl
  where
    go : (found : Option SecretLine) → line_for lines client server ≡ found → Lookup lines client server (option_map (λ line. line.number) found)
    go None e = none_matches lines client server e
    go (Some line) e =
        let is : IsLineFor lines client server line = found_is_for lines client server line rise e in
        (line, numbered_as_kept lines rise line is.kept, is)

number_of_found : (lines : List SecretLine) (number : ℕ) (line : SecretLine) → line_numbered number lines ≡ Some line → line.number ≡ number
number_of_found lines number line e =
    let found : In line lines × ((line.number == number) ≡ true) = find_in (λ line. line.number == number) lines line e in
    grind (arith, nat_tests, found.1)

pub one_lookup : (lines : List SecretLine) (client server : List ℕ) (number other : Option ℕ) → IsRising lines →
    Lookup lines client server number → Lookup lines client server other → number ≡ other
one_lookup lines client server None None rise a b = refl
one_lookup lines client server None (Some n) rise a b = absurd (let no : is_match client server b.0 ≡ false = a b.0 b.2.kept in let yes : is_match client server b.0 ≡ true = b.2.matches in cc)
one_lookup lines client server (Some n) None rise a b = absurd (let no : is_match client server a.0 ≡ false = b a.0 a.2.kept in let yes : is_match client server a.0 ≡ true = a.2.matches in cc)
one_lookup lines client server (Some n) (Some m) rise a b =
    let same : a.0 ≡ b.0 = one_line lines client server a.0 b.0 rise a.2 b.2 in
    let first : a.0.number ≡ n = number_of_found lines n a.0 a.1 in
    let second : b.0.number ≡ m = number_of_found lines m b.0 b.1 in
    ap Some (sym first ∙ ap (λ line. line.number) same ∙ second)

-- The line for two names is the one that is found.
pub is_for_is_found : (lines : List SecretLine) (client server : List ℕ) (line : SecretLine) → IsRising lines → IsLineFor lines client server line → line_for lines client server ≡ Some line
is_for_is_found lines client server line rise is = go (line_for lines client server) refl
  where
    go : (found : Option SecretLine) → line_for lines client server ≡ found → found ≡ Some line
    go None e = absurd (let no : is_match client server line ≡ false = none_matches lines client server e line is.kept in let yes : is_match client server line ≡ true = is.matches in cc)
    go (Some other) e = ap Some (one_line lines client server other line rise (found_is_for lines client server other rise e) is)

-- a number that is that of the line that is found
pub is_answered : (lines : List SecretLine) (client server : List ℕ) (number : Option ℕ) → IsRising lines →
    number ≡ option_map (λ line. line.number) (line_for lines client server) → Lookup lines client server number
is_answered lines client server number rise e = subst (Lookup lines client server) (sym e) (lookup_holds lines client server rise)

pub same_line : (lines : List SecretLine) (client server : List ℕ) (number : Option ℕ) → IsRising lines →
    number ≡ option_map (λ line. line.number) (line_for lines client server) → IfSome number (λ n. line_numbered n lines ≡ line_for lines client server)
same_line lines client server None rise e = tt
same_line lines client server (Some n) rise e = go (line_for lines client server) refl e
  where
    go : (found : Option SecretLine) → line_for lines client server ≡ found → Some n ≡ option_map (λ line. line.number) found → line_numbered n lines ≡ line_for lines client server
    go None is e = absurd cc
    go (Some line) is e =
        let same : n ≡ line.number = cc in
        ap (λ m. line_numbered m lines) same ∙ numbered_as_kept lines rise line (found_is_for lines client server line rise is).kept ∙ sym is
