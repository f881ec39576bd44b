-- The fault of a script is that of the first word that has one: with that word it is there, and before it none is.
use Rattle.std.proofs.Common.{ℕ, ◌≡◌, ◌+◌, ◌-◌, ◌≤◌, ◌<◌, zero, suc, IfSome, length, Option, None, Some, Result, Ok, Err, List, [], ◌∷◌, ◌++◌, take, refl, sym, ap, subst, ◌∙◌, arith, ◌⊎◌, inl, inr}
use Rattle.std.specs.List.{slice_split}
use Rattle.ppp_chat.specs.Pieces.{pieces_of}
use Rattle.ppp_chat.specs.Script.{SendPart, Expected, Item, Directs, Pair, directives_of}
use Rattle.ppp_chat.specs.Words.{all_pieces, directive_word, expect_word, in_twos, is_hyphen, items_behind, keyword_of, ok_map, ok_then, pair_words, script_of, send_word, two_words, word_of}
use Rattle.ppp_chat.specs.declared.directive.Directive.{Directive}
use Rattle.ppp_chat.specs.declared.fault.ScriptFault.{ScriptFault}
use Rattle.ppp_chat.specs.declared.keyword.Keyword.{Keyword}
use Rattle.ppp_chat.proofs.WordsRead.{FaultWithin, directive-within, expect-within, items-within, map-within, send-within}

word-is : (o : Option ℕ) (low word : ℕ) → IfSome o (λ (number : ℕ). (low ≤ number) × (number < low + 1)) → o ≡ Some word → word ≡ low
word-is None low word within is = absurd (cc (is))
word-is (Some number) low word within is = let same : number ≡ word = cc (is) in omega (arith, within.0, within.1, same)

word-from : (o : Option ℕ) (low high word : ℕ) → IfSome o (λ (number : ℕ). (low ≤ number) × (number < high)) → o ≡ Some word → low ≤ word
word-from None low high word within is = absurd (cc (is))
word-from (Some number) low high word within is = let same : number ≡ word = cc (is) in omega (arith, within.0, same)

-- the word that the fault of one word names
one-word : {X : Type 0} (low word : ℕ) (r : Result X ScriptFault) (fault : ScriptFault) → FaultWithin low (low + 1) r → r ≡ Err fault → word_of fault ≡ Some word → word ≡ low
one-word low word r fault within is named =
    word-is (word_of fault) low word (subst (λ (x : Result _ ScriptFault). FaultWithin low (low + 1) x) is within) named

-- Of two words the first has the fault, and has it alone; or the second has it, and the first alone has none.
abbrev pub OfTwo : ℕ → Result (List Item) ScriptFault → ScriptFault → Type 0
OfTwo place alone fault = ((place ≡ 0) × (alone ≡ Err fault)) ⊎ ((place ≡ 1) × ((items : List Item) × (alone ≡ Ok items)))

pair-first : (number place : ℕ) (expected : Result Expected ScriptFault) (second : List ℕ) (fault : ScriptFault) → FaultWithin number (number + 1) expected
    → pair_words number expected (Some second) ≡ Err fault → word_of fault ≡ Some (number + place) → OfTwo place (pair_words number expected None) fault
pair-first number place (Err other) second fault within is named =
    let same : other ≡ fault = cc (is) in
    let failed : Result Expected ScriptFault = Err other in
    let at : number + place ≡ number = one-word number (number + place) failed fault within (ap (λ (f : ScriptFault). Err f) same) named in
    inl (omega (arith, at), ap (λ (f : ScriptFault). Err f) same)
pair-first number place (Ok e) second fault within is named =
    let at : number + place ≡ number + 1 =
    one-word (number + 1) (number + place) (pair_words number (Ok e) (Some second)) fault
    (map-within (λ (send : List SendPart). Pair e send ∷ []) (number + 1) (number + 1 + 1) (send_word (number + 1) (pieces_of second))
    (send-within (number + 1) (number + 1) (number + 1 + 1) (pieces_of second) (omega arith) (omega arith))) is named in
    inr (omega (arith, at), (Pair e [] ∷ [], refl))

two-first : (number place : ℕ) (before : List Directive) (first second : List ℕ) (keyword : Option Keyword) (fault : ScriptFault)
    → two_words number before first keyword (Some second) ≡ Err fault → word_of fault ≡ Some (number + place)
    → OfTwo place (two_words number before first keyword None) fault
two-first number place before first second (Some keyword) fault is named =
    let at : number + place ≡ number + 1 =
    one-word (number + 1) (number + place) (two_words number before first (Some keyword) (Some second)) fault
    (map-within (λ (directive : Directive). Directs directive ∷ []) (number + 1) (number + 1 + 1) (directive_word (number + 1) before keyword second)
    (directive-within (number + 1) (number + 1) (number + 1 + 1) before keyword second (omega arith) (omega arith))) is named in
    inr (omega (arith, at), ([], refl))
two-first number place before first second None fault is named =
    pair-first number place (expect_word number (all_pieces (slice_split is_hyphen first))) second fault
    (expect-within number number (number + 1) (all_pieces (slice_split is_hyphen first)) (omega arith) (omega arith)) is named

-- with the word at this place the fault is there, and before it none is
abbrev pub IsFirst : ℕ → List Directive → List (List ℕ) → ScriptFault → ℕ → Type 0
IsFirst number before words fault place =
    (items_behind number before (in_twos (take (suc place) words)) ≡ Err fault) × ((items : List Item) × (items_behind number before (in_twos (take place words)) ≡ Ok items))

-- the items of two words, and of those behind them
abbrev pub onto_two : ℕ → List Directive → Result (List Item) ScriptFault → List (List ℕ) → Result (List Item) ScriptFault
onto_two number before two words =
    ok_then two (λ (items : List Item). ok_map (λ (more : List Item). items ++ more) (items_behind (number + 2) (before ++ directives_of items) (in_twos words)))

alone-fault : (number : ℕ) (before : List Directive) (r : Result (List Item) ScriptFault) (fault : ScriptFault) → r ≡ Err fault → onto_two number before r [] ≡ Err fault
alone-fault number before (Err other) fault is = let same : other ≡ fault = cc (is) in ap (λ (f : ScriptFault). Err f) same
alone-fault number before (Ok items) fault is = absurd (cc (is))

alone-ok : (number : ℕ) (before : List Directive) (r : Result (List Item) ScriptFault) (items : List Item) → r ≡ Ok items
    → (more : List Item) × (onto_two number before r [] ≡ Ok more)
alone-ok number before (Err other) items is = absurd (cc (is))
alone-ok number before (Ok found) items is = (found ++ [], refl)

more-fault : (items : List Item) (r : Result (List Item) ScriptFault) (fault : ScriptFault) → ok_map (λ (more : List Item). items ++ more) r ≡ Err fault → r ≡ Err fault
more-fault items (Err other) fault is = let same : other ≡ fault = cc (is) in ap (λ (f : ScriptFault). Err f) same
more-fault items (Ok more) fault is = absurd (cc (is))

more-ok : (items : List Item) (r : Result (List Item) ScriptFault) (found : List Item) → r ≡ Ok found → (all : List Item) × (ok_map (λ (more : List Item). items ++ more) r ≡ Ok all)
more-ok items r found is = (items ++ found, ap (λ (x : Result (List Item) ScriptFault). ok_map (λ (more : List Item). items ++ more) x) is)

-- the words behind two that are right
behind-two : (number place : ℕ) (before : List Directive) (words : List (List ℕ)) (items : List Item) (fault : ScriptFault)
    → IsFirst (number + 2) (before ++ directives_of items) words fault place
    → (onto_two number before (Ok items) (take (suc place) words) ≡ Err fault) × ((all : List Item) × (onto_two number before (Ok items) (take place words) ≡ Ok all))
behind-two number place before words items fault first = (
  ap (λ (x : Result (List Item) ScriptFault). ok_map (λ (more : List Item). items ++ more) x) first.0,
  more-ok items (items_behind (number + 2) (before ++ directives_of items) (in_twos (take place words))) first.1.0 first.1.1,
)

behind-right : (number place : ℕ) (before : List Directive) (words : List (List ℕ)) (items : List Item) (fault : ScriptFault)
    → ok_map (λ (more : List Item). items ++ more) (items_behind (number + 2) (before ++ directives_of items) (in_twos words)) ≡ Err fault
    → word_of fault ≡ Some (number + place) → number + 2 ≤ number + place
behind-right number place before words items fault is named =
    let rest : Result (List Item) ScriptFault = items_behind (number + 2) (before ++ directives_of items) (in_twos words) in
    word-from (word_of fault) (number + 2) (number + 2 + length words) (number + place)
    (subst (λ (x : Result (List Item) ScriptFault). FaultWithin (number + 2) (number + 2 + length words) x) (more-fault items rest fault is)
    (items-within (number + 2) (number + 2 + length words) (before ++ directives_of items) words (omega arith))) named

-- two words and those behind them, where these are what the two are together and the first is alone
two-and-more : (number place : ℕ) (before : List Directive) (first second : List ℕ) (words : List (List ℕ)) (two : Result (List Item) ScriptFault) (fault : ScriptFault)
    → two ≡ two_words number before first (keyword_of first) (Some second)
    → onto_two number before two words ≡ Err fault → word_of fault ≡ Some (number + place)
    → ((more : ℕ) (items : List Item) → word_of fault ≡ Some (number + 2 + more)
    → items_behind (number + 2) (before ++ directives_of items) (in_twos words) ≡ Err fault → IsFirst (number + 2) (before ++ directives_of items) words fault more)
    → IsFirst number before (first ∷ second ∷ words) fault place
two-and-more number place before first second words (Err other) fault two is named behind =
    let same : two_words number before first (keyword_of first) (Some second) ≡ Err fault = sym two ∙ is in
    elim (two-first number place before first second (keyword_of first) fault same named) [
      | inl one ↦
          rw one.0
          (alone-fault number before (two_words number before first (keyword_of first) None) fault one.1, ([], refl))
      | inr one ↦
          rw one.0 (
            alone-fault number before (two_words number before first (keyword_of first) (Some second)) fault same,
            alone-ok number before (two_words number before first (keyword_of first) None) one.1.0 one.1.1,
          )
    ]
two-and-more number zero before first second words (Ok items) fault two is named behind =
    absurd (omega (arith, behind-right number 0 before words items fault is named))
two-and-more number (suc zero) before first second words (Ok items) fault two is named behind =
    absurd (omega (arith, behind-right number 1 before words items fault is named))
two-and-more number (suc (suc place)) before first second words (Ok items) fault two is named behind =
    let later : IsFirst (number + 2) (before ++ directives_of items) words fault place =
    behind place items (named ∙ ap (λ (n : ℕ). Some n) (omega arith))
    (more-fault items (items_behind (number + 2) (before ++ directives_of items) (in_twos words)) fault is) in
    rw (← two) (behind-two number place before words items fault later)

first-behind : (number place : ℕ) (before : List Directive) (words : List (List ℕ)) (fault : ScriptFault)
    → items_behind number before (in_twos words) ≡ Err fault → word_of fault ≡ Some (number + place) → IsFirst number before words fault place
first-behind number place before [] fault is named = absurd (cc (is))
first-behind number place before (last ∷ []) fault is named =
    let at : number + place ≡ number =
    one-word number (number + place) (items_behind number before (in_twos (last ∷ []))) fault (items-within number (number + 1) before (last ∷ []) (omega arith)) is named in
    let none : place ≡ 0 = omega (arith, at) in
    rw none (is, ([], refl))
first-behind number place before (first ∷ second ∷ words) fault is named =
    two-and-more number place before first second words (two_words number before first (keyword_of first) (Some second)) fault refl is named
    (λ more items word rest. first-behind (number + 2) more (before ++ directives_of items) words fault rest word)

-- A script's fault is the first.
pub first-fault : (words : List (List ℕ)) (fault : ScriptFault) (number : ℕ) → script_of words ≡ Err fault → word_of fault ≡ Some (suc number)
    → (script_of (take (suc number) words) ≡ Err fault) × ((items : List Item) × (script_of (take number words) ≡ Ok items))
first-fault words fault number is named = first-behind 1 number [] words fault is (named ∙ ap (λ (n : ℕ). Some n) (omega arith))
