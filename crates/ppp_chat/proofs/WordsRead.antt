-- Reading the words of a script two by two, and the word that a fault names.
use Rattle.std.proofs.Common.{ℕ, ◌≡◌, ◌+◌, ◌-◌, ◌≤◌, ◌<◌, get_or, slice_get, take, drop, Bool, true, false, cond, nat_le, IfSome, MatchResult, Option, None, Some, Result, Ok, Err, List, [], ◌∷◌, ◌++◌, length, map, refl, sym, ap, subst, ◌∙◌, arith, append_assoc, append-nil}
use Rattle.std.specs.Global.{Vec}
use Rattle.std.specs.List.{slice_split}
use Rattle.std.proofs.lemmas.List.{take_all}
use Rattle.ppp_chat.specs.Pieces.{pieces_of}
use Rattle.ppp_chat.specs.Reading.{Adds, Gives, NamesWord}
use Rattle.ppp_chat.specs.Script.{SendPart, Expected, Item, Directs, Pair, directives_of}
use Rattle.ppp_chat.specs.Settings.{aborts_of}
use Rattle.ppp_chat.specs.Steps.{flat, flat_expect, items_of, directives_in}
use Rattle.ppp_chat.specs.Words.{abort_word, all_pieces, clear_word, directive_word, expect_word, expected_of, fits, in_twos, is_hyphen, items_behind, keyword_of, ok_map, ok_then, script_of, seconds_of, send_of, send_word, timeout_word, two_words, word_of}
use Rattle.ppp_chat.specs.declared.directive.Directive.{Directive}
use Rattle.ppp_chat.specs.declared.fault.ScriptFault.{ScriptFault}
use Rattle.ppp_chat.specs.declared.fault.ScriptFault.TheVariants.{BadEscape, BadNumber, TooManyAborts, TooLong, NoMemory}
use Rattle.ppp_chat.specs.declared.keyword.Keyword.{Keyword}
use Rattle.ppp_chat.specs.declared.keyword.Keyword.TheVariants.{Abort as SetsAbort, ClearAbort as ClearsAbort, Timeout as SetsTimeout}
use Rattle.ppp_chat.specs.declared.piece.Piece.{Piece}
use Rattle.ppp_chat.specs.declared.step.Step.{Step}
use Rattle.ppp_chat.proofs.FlatItems.{items-back, flat-append, directives-append, directives-flat}

-- Two words, and those behind them.
pub left-two : (left : List (Vec ℕ)) (first second : Vec ℕ) → 2 ≤ length left → first ≡ get_or left 0 first → second ≡ get_or left 1 second
    → map (λ (word : Vec ℕ). word.items) left ≡ first.items ∷ second.items ∷ map (λ (word : Vec ℕ). word.items) (take (length left - 2) (drop 2 left))
left-two [] first second some is also = absurd (omega arith)
left-two (x ∷ []) first second some is also = absurd (omega arith)
left-two (x ∷ y ∷ left) first second some is also =
    let all : take (length (x ∷ y ∷ left) - 2) left ≡ left = take_all (length (x ∷ y ∷ left) - 2) left (omega arith) in
    ap (λ (word : Vec ℕ). word.items ∷ y.items ∷ map (λ (one : Vec ℕ). one.items) left) (sym is)
    ∙ ap (λ (word : Vec ℕ). first.items ∷ word.items ∷ map (λ (one : Vec ℕ). one.items) left) (sym also)
    ∙ ap (λ (words : List (Vec ℕ)). first.items ∷ second.items ∷ map (λ (one : Vec ℕ). one.items) words) (sym all)

-- One word that is the last.
pub left-one : (left : List (Vec ℕ)) (last : Vec ℕ) → length left < 2 → Some last ≡ slice_get left 0 → map (λ (word : Vec ℕ). word.items) left ≡ last.items ∷ []
left-one [] last few is = absurd (cc (is))
left-one (x ∷ []) last few is = let same : x ≡ last = cc (is) in ap (λ (word : Vec ℕ). word.items ∷ []) same
left-one (x ∷ y ∷ left) last few is = absurd (omega arith)

pub left-none : (left : List (Vec ℕ)) → None ≡ slice_get left 0 → map (λ (word : Vec ℕ). word.items) left ≡ []
left-none [] is = refl
left-none (x ∷ left) is = absurd (cc (is))

pub words-count : (words : List (Vec ℕ)) → length (map (λ (word : Vec ℕ). word.items) words) ≡ length words
words-count [] = refl
words-count (word ∷ words) = omega (arith, words-count words)

-- an expect's steps are those of its pair without a send
pair-adds : (old new : List Step) (result : Result (Unit {0}) ScriptFault) (r : Result Expected ScriptFault) → Adds old new result (ok_map flat_expect r)
    → Adds old new result (ok_map flat (ok_map (λ (e : Expected). Pair e [] ∷ []) r))
pair-adds old new (Ok done) (Ok e) adds =
    adds ∙ ap (λ (l : List Step). old ++ l) (sym (append-nil (flat_expect e)) ∙ sym (append-nil (flat_expect e ++ [])))
pair-adds old new (Ok done) (Err fault) adds = absurd adds
pair-adds old new (Err NoMemory) r adds = tt
pair-adds old new (Err (BadEscape word)) (Ok e) adds = absurd (cc (adds))
pair-adds old new (Err (BadEscape word)) (Err fault) adds = adds
pair-adds old new (Err (BadNumber word)) (Ok e) adds = absurd (cc (adds))
pair-adds old new (Err (BadNumber word)) (Err fault) adds = adds
pair-adds old new (Err (TooManyAborts word)) (Ok e) adds = absurd (cc (adds))
pair-adds old new (Err (TooManyAborts word)) (Err fault) adds = adds
pair-adds old new (Err (TooLong word)) (Ok e) adds = absurd (cc (adds))
pair-adds old new (Err (TooLong word)) (Err fault) adds = adds

-- A last word that names no directive adds the steps of an expect.
pub last-adds : (old new : List Step) (number : ℕ) (result : Result (Unit {0}) ScriptFault) (word : List ℕ) → keyword_of word ≡ None
    → Adds old new result (ok_map flat_expect (expect_word number (all_pieces (slice_split is_hyphen word))))
    → Adds old new result (ok_map flat (two_words number (directives_in old) word (keyword_of word) None))
last-adds old new number result word none adds =
    subst (λ (keyword : Option Keyword). Adds old new result (ok_map flat (two_words number (directives_in old) word keyword None))) (sym none)
    (pair-adds old new result (expect_word number (all_pieces (slice_split is_hyphen word))) adds)

-- the steps of items, behind these
abbrev pub with_steps : List Step → Result (List Item) ScriptFault → Result (List Step) ScriptFault
with_steps steps items = ok_map (λ (more : List Item). steps ++ flat more) items

more-items : (old : List Step) (items : List Item) (r : Result (List Item) ScriptFault)
    → with_steps old (ok_map (λ (more : List Item). items ++ more) r) ≡ with_steps (old ++ flat items) r
more-items old items (Err fault) = refl
more-items old items (Ok more) =
    ap (λ (l : List Step). Ok l) (ap (λ (l : List Step). old ++ l) (flat-append items more) ∙ sym (append_assoc old (flat items) (flat more)))

goes-on : (old new : List Step) (number : ℕ) (twos : List (List ℕ × Option (List ℕ))) (r : Result (List Item) ScriptFault)
    → MatchResult (ok_map flat r) (λ (steps : List Step). new ≡ old ++ steps) (λ _. ⊥)
    → with_steps old (ok_then r (λ (items : List Item). ok_map (λ (more : List Item). items ++ more) (items_behind number (directives_in old ++ directives_of items) twos)))
    ≡ with_steps new (items_behind number (directives_in new) twos)
goes-on old new number twos (Err fault) adds = absurd adds
goes-on old new number twos (Ok items) adds =
    let set : directives_in new ≡ directives_in old ++ directives_of items =
    ap directives_in adds ∙ directives-append old (flat items) ∙ ap (λ (l : List Directive). directives_in old ++ l) (directives-flat items) in
    more-items old items (items_behind number (directives_in old ++ directives_of items) twos)
    ∙ ap (λ (l : List Directive). with_steps (old ++ flat items) (items_behind number l twos)) (sym set)
    ∙ ap (λ (l : List Step). with_steps l (items_behind number (directives_in new) twos)) (sym adds)

-- Two words are read.
pub two-read : (all : List (List ℕ)) (old new : List Step) (number : ℕ) (first second : List ℕ) (left : List (List ℕ))
    → with_steps [] (script_of all) ≡ with_steps old (items_behind number (directives_in old) (in_twos (first ∷ second ∷ left)))
    → Adds old new (Ok tt) (ok_map flat (two_words number (directives_in old) first (keyword_of first) (Some second)))
    → with_steps [] (script_of all) ≡ with_steps new (items_behind (number + 2) (directives_in new) (in_twos left))
two-read all old new number first second left so_far adds =
    so_far ∙ goes-on old new (number + 2) (in_twos left) (two_words number (directives_in old) first (keyword_of first) (Some second)) adds

-- A last word is read.
pub last-read : (all : List (List ℕ)) (old new : List Step) (number : ℕ) (last : List ℕ)
    → with_steps [] (script_of all) ≡ with_steps old (items_behind number (directives_in old) (in_twos (last ∷ [])))
    → Adds old new (Ok tt) (ok_map flat (two_words number (directives_in old) last (keyword_of last) None))
    → with_steps [] (script_of all) ≡ with_steps new (Ok [])
last-read all old new number last so_far adds =
    so_far ∙ goes-on old new (number + 2) [] (two_words number (directives_in old) last (keyword_of last) None) adds

reads-at : (r : Result (List Item) ScriptFault) (steps : List Step) → ok_map flat r ≡ Ok steps → r ≡ Ok (items_of steps)
reads-at (Err fault) steps is = absurd (cc (is))
reads-at (Ok items) steps is =
    let same : flat items ≡ steps = cc (is) in
    ap (λ (l : List Item). Ok l) (sym (items-back items) ∙ ap items_of same)

flat-at : (r : Result (List Item) ScriptFault) (steps : List Step) → ok_map flat r ≡ Ok steps → flat (items_of steps) ≡ steps
flat-at (Err fault) steps is = absurd (cc (is))
flat-at (Ok items) steps is =
    let same : flat items ≡ steps = cc (is) in
    ap (λ (l : List Step). flat (items_of l)) (sym same) ∙ ap flat (items-back items) ∙ same

none-left : (r : Result (List Item) ScriptFault) (steps : List Step) → with_steps [] r ≡ with_steps steps (Ok []) → ok_map flat r ≡ Ok steps
none-left r steps is = is ∙ ap (λ (l : List Step). Ok l) (append-nil steps)

-- Behind the last word the items are those of the steps, and the steps are theirs.
pub all-read : (all : List (List ℕ)) (steps : List Step) → with_steps [] (script_of all) ≡ with_steps steps (Ok []) → script_of all ≡ Ok (items_of steps)
all-read all steps is = reads-at (script_of all) steps (none-left (script_of all) steps is)

pub all-flat : (all : List (List ℕ)) (steps : List Step) → with_steps [] (script_of all) ≡ with_steps steps (Ok []) → flat (items_of steps) ≡ steps
all-flat all steps is = flat-at (script_of all) steps (none-left (script_of all) steps is)

-- FAULTS

fault-at : (r : Result (List Item) ScriptFault) (fault : ScriptFault) → ok_map flat r ≡ Err fault → r ≡ Err fault
fault-at (Err other) fault is = let same : other ≡ fault = cc (is) in ap (λ (f : ScriptFault). Err f) same
fault-at (Ok items) fault is = absurd (cc (is))

after-fault : (old : List Step) (number : ℕ) (twos : List (List ℕ × Option (List ℕ))) (r : Result (List Item) ScriptFault) (fault : ScriptFault) → r ≡ Err fault
    → with_steps old (ok_then r (λ (items : List Item). ok_map (λ (more : List Item). items ++ more) (items_behind number (directives_in old ++ directives_of items) twos))) ≡ Err fault
after-fault old number twos (Err other) fault is = let same : other ≡ fault = cc (is) in ap (λ (f : ScriptFault). Err f) same
after-fault old number twos (Ok items) fault is = absurd (cc (is))

-- the fault of the next words is that of all
fails : (all : List (List ℕ)) (old : List Step) (number : ℕ) (first : List ℕ) (second : Option (List ℕ)) (twos : List (List ℕ × Option (List ℕ))) (fault : ScriptFault)
    → with_steps [] (script_of all) ≡ with_steps old (items_behind number (directives_in old) ((first, second) ∷ twos))
    → ok_map flat (two_words number (directives_in old) first (keyword_of first) second) ≡ Err fault
    → script_of all ≡ Err fault
fails all old number first second twos fault so_far is =
    let r : Result (List Item) ScriptFault = two_words number (directives_in old) first (keyword_of first) second in
    fault-at (script_of all) fault (so_far ∙ after-fault old (number + 2) twos r fault (fault-at r fault is))

-- Where the next words have a fault, the script has it.
pub gives-fault : (all : List (List ℕ)) (old new : List Step) (number timeout_s : ℕ) (first : List ℕ) (second : Option (List ℕ))
    (twos : List (List ℕ × Option (List ℕ))) (fault : ScriptFault)
    → with_steps [] (script_of all) ≡ with_steps old (items_behind number (directives_in old) ((first, second) ∷ twos))
    → Adds old new (Err fault) (ok_map flat (two_words number (directives_in old) first (keyword_of first) second))
    → Gives (Err fault) (script_of all) timeout_s
gives-fault all old new number timeout_s first second twos (BadEscape word) so_far adds = fails all old number first second twos (BadEscape word) so_far adds
gives-fault all old new number timeout_s first second twos (BadNumber word) so_far adds = fails all old number first second twos (BadNumber word) so_far adds
gives-fault all old new number timeout_s first second twos (TooManyAborts word) so_far adds = fails all old number first second twos (TooManyAborts word) so_far adds
gives-fault all old new number timeout_s first second twos (TooLong word) so_far adds = fails all old number first second twos (TooLong word) so_far adds
gives-fault all old new number timeout_s first second twos NoMemory so_far adds = tt

-- a fault names a word from one on, below another
abbrev pub FaultWithin : {X : Type 0} → ℕ → ℕ → Result X ScriptFault → Type 0
FaultWithin low high (Ok x) = Unit {0}
FaultWithin low high (Err fault) = IfSome (word_of fault) (λ (number : ℕ). (low ≤ number) × (number < high))

long-within : {X : Type 0} (number low high : ℕ) (b : Bool) (x : X) → low ≤ number → number < high → FaultWithin low high (cond b (Ok x) (Err (TooLong number)))
long-within number low high true x below above = tt
long-within number low high false x below above = (below, above)

pub expect-within : (number low high : ℕ) (parts : Option (List (List Piece))) → low ≤ number → number < high → FaultWithin low high (expect_word number parts)
expect-within number low high None below above = (below, above)
expect-within number low high (Some parts) below above = long-within number low high (fits parts) (expected_of parts) below above

pub send-within : (number low high : ℕ) (pieces : Option (List Piece)) → low ≤ number → number < high → FaultWithin low high (send_word number pieces)
send-within number low high None below above = (below, above)
send-within number low high (Some pieces) below above = long-within number low high (fits (pieces ∷ [])) (send_of pieces) below above

many-within : (number low high : ℕ) (b : Bool) (r : Result Directive ScriptFault) → low ≤ number → number < high → FaultWithin low high r
    → FaultWithin low high (cond b (Err (TooManyAborts number)) r)
many-within number low high true r below above within = (below, above)
many-within number low high false r below above within = within

pub directive-within : (number low high : ℕ) (before : List Directive) (keyword : Keyword) (word : List ℕ) → low ≤ number → number < high
    → FaultWithin low high (directive_word number before keyword word)
directive-within number low high before SetsAbort word below above = abort (pieces_of word)
  where
    abort : (pieces : Option (List Piece)) → FaultWithin low high (abort_word number before pieces)
    abort None = (below, above)
    abort (Some pieces) =
        many-within number low high (nat_le 50 (length (aborts_of before))) (cond (fits (pieces ∷ [])) (Ok _) (Err (TooLong number))) below above
        (long-within number low high (fits (pieces ∷ [])) _ below above)
directive-within number low high before ClearsAbort word below above = clear (pieces_of word)
  where
    clear : (pieces : Option (List Piece)) → FaultWithin low high (clear_word number pieces)
    clear None = (below, above)
    clear (Some pieces) = long-within number low high (fits (pieces ∷ [])) _ below above
directive-within number low high before SetsTimeout word below above = timeout (seconds_of word)
  where
    timeout : (seconds : Option ℕ) → FaultWithin low high (timeout_word number seconds)
    timeout None = (below, above)
    timeout (Some seconds) = tt

pub map-within : {X Y : Type 0} (f : X → Y) (low high : ℕ) (r : Result X ScriptFault) → FaultWithin low high r → FaultWithin low high (ok_map f r)
map-within f low high (Ok x) within = tt
map-within f low high (Err fault) within = within

then-within : {X Y : Type 0} (low high : ℕ) (r : Result X ScriptFault) (f : X → Result Y ScriptFault) → FaultWithin low high r
    → ((x : X) → FaultWithin low high (f x)) → FaultWithin low high (ok_then r f)
then-within low high (Ok x) f within more = more x
then-within low high (Err fault) f within more = within

two-within : (number high : ℕ) (before : List Directive) (first : List ℕ) (keyword : Option Keyword) (second : List ℕ) → number + 1 < high
    → FaultWithin number high (two_words number before first keyword (Some second))
two-within number high before first (Some keyword) second above =
    map-within (λ (directive : Directive). Directs directive ∷ []) number high (directive_word (number + 1) before keyword second)
    (directive-within (number + 1) number high before keyword second (omega arith) above)
two-within number high before first None second above =
    then-within number high (expect_word number (all_pieces (slice_split is_hyphen first)))
    (λ (e : Expected). ok_map (λ (send : List SendPart). Pair e send ∷ []) (send_word (number + 1) (pieces_of second)))
    (expect-within number number high (all_pieces (slice_split is_hyphen first)) (omega arith) (omega arith))
    (λ e. map-within (λ (send : List SendPart). Pair e send ∷ []) number high (send_word (number + 1) (pieces_of second))
    (send-within (number + 1) number high (pieces_of second) (omega arith) above))

last-within : (number high : ℕ) (before : List Directive) (last : List ℕ) (keyword : Option Keyword) → number < high
    → FaultWithin number high (two_words number before last keyword None)
last-within number high before last (Some keyword) above = tt
last-within number high before last None above =
    map-within (λ (e : Expected). Pair e [] ∷ []) number high (expect_word number (all_pieces (slice_split is_hyphen last)))
    (expect-within number number high (all_pieces (slice_split is_hyphen last)) (omega arith) above)

wider-fault : (low more high : ℕ) (o : Option ℕ) → low ≤ more → IfSome o (λ (number : ℕ). (more ≤ number) × (number < high)) → IfSome o (λ (number : ℕ). (low ≤ number) × (number < high))
wider-fault low more high None below within = tt
wider-fault low more high (Some number) below within = (omega (arith, within.0), within.1)

wider : {X : Type 0} (low more high : ℕ) (r : Result X ScriptFault) → low ≤ more → FaultWithin more high r → FaultWithin low high r
wider low more high (Ok x) below within = tt
wider low more high (Err fault) below within = wider-fault low more high (word_of fault) below within

pub items-within : (number high : ℕ) (before : List Directive) (words : List (List ℕ)) → number + length words ≤ high → FaultWithin number high (items_behind number before (in_twos words))
items-within number high before [] above = tt
items-within number high before (last ∷ []) above =
    then-within number high (two_words number before last (keyword_of last) None)
    (λ (items : List Item). ok_map (λ (more : List Item). items ++ more) (Ok [])) (last-within number high before last (keyword_of last) (omega arith)) (λ items. tt)
items-within number high before (first ∷ second ∷ words) above =
    then-within number high (two_words number before first (keyword_of first) (Some second))
    (λ (items : List Item). ok_map (λ (more : List Item). items ++ more) (items_behind (number + 2) (before ++ directives_of items) (in_twos words)))
    (two-within number high before first (keyword_of first) second (omega arith))
    (λ items. map-within (λ (more : List Item). items ++ more) number high (items_behind (number + 2) (before ++ directives_of items) (in_twos words))
    (wider number (number + 2) high (items_behind (number + 2) (before ++ directives_of items) (in_twos words)) (omega arith)
    (items-within (number + 2) high (before ++ directives_of items) words (omega arith))))

named : (words : List (List ℕ)) (count : ℕ) (fault : ScriptFault) → length words ≡ count → script_of words ≡ Err fault → NamesWord fault count
named words count fault same is =
    closed (word_of fault) (subst (λ (r : Result (List Item) ScriptFault). FaultWithin 1 (1 + count) r) is (items-within 1 (1 + count) [] words (omega (arith, same))))
  where
    closed : (o : Option ℕ) → IfSome o (λ (number : ℕ). (1 ≤ number) × (number < 1 + count)) → IfSome o (λ (number : ℕ). (1 ≤ number) × (number ≤ count))
    closed None within = tt
    closed (Some number) within = (within.0, omega (arith, within.1))

-- The word that a fault names is one of the words.
pub names-word : (words : List (List ℕ)) (count timeout_s : ℕ) (fault : ScriptFault) → length words ≡ count → Gives (Err fault) (script_of words) timeout_s → NamesWord fault count
names-word words count timeout_s (BadEscape word) same gives = named words count (BadEscape word) same gives
names-word words count timeout_s (BadNumber word) same gives = named words count (BadNumber word) same gives
names-word words count timeout_s (TooManyAborts word) same gives = named words count (TooManyAborts word) same gives
names-word words count timeout_s (TooLong word) same gives = named words count (TooLong word) same gives
names-word words count timeout_s NoMemory same gives = tt
