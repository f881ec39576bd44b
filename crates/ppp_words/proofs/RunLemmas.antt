-- Reading the octets of a text gives the words of the text.
use Rattle.std.proofs.Common.{◌≡◌, ℕ, ◌⊎◌, Bool, true, false, cond, List, [], ◌∷◌, ◌++◌, Option, Some, None, refl, ap, sym, ◌∙◌, inl, inr, append_assoc, append-nil}
use Rattle.std.proofs.lemmas.Bool.Decides.{eqb_tells}
use Rattle.std.specs.Prelude.{◌==◌, ◌&&◌, is_none}
use Rattle.std.specs.List.{flat_map, AllByRecursion}
use Rattle.ppp_words.specs.Octets.{is_white, is_quote, is_plain, line_after, line_behind}
use Rattle.ppp_words.specs.Parts.{Mark, Bare, Escaped, Part, Loose, Quoted, mark_spelled, part_spelled, mark_meant, part_meant, backslash_meant, StandsWithin, IsPart, BeginsNoComment, AreParts}
use Rattle.ppp_words.specs.Text as made
use Rattle.ppp_words.specs.Text.{Text, last_backslash, spelled, EndsLine, EndsWord, IsText}
use Rattle.ppp_words.specs.Front.{Front}
use Rattle.ppp_words.specs.PlacedWord.{PlacedWord}
use Rattle.ppp_words.specs.Words.{all_words, with_words, word_of, last_words, words_from}
use Rattle.ppp_words.specs.Steps.{State, begun, longer, pushed, behind, ended, step, run}
use Rattle.ppp_words.specs.declared.backslash.Backslash.{Backslash}
use Rattle.ppp_words.specs.declared.backslash.Backslash.TheVariants.{Dropped, Kept}
use Rattle.ppp_words.specs.declared.place.Place.{Place}
use Rattle.ppp_words.specs.declared.place.Place.TheVariants.{Outside, Comment, Quote}

pub true_or_false : (b : Bool) → (b ≡ true) ⊎ (b ≡ false)
true_or_false true = inl refl
true_or_false false = inr refl

abbrev pub at : Place → ℕ → Option PlacedWord → List PlacedWord → State
at place line word words = record { place = place; line = line; word = word; words = words }

-- what is known of a quote
pub record IsQuote (q : ℕ) : Type 0 where
  pub white : is_white q ≡ false
  pub quote : is_quote q ≡ true
  pub newline : (q == 10) ≡ false
  pub backslash : (92 == q) ≡ false
  pub same : (q == q) ≡ true

quotes : (q : ℕ) → (q ≡ 39) ⊎ (q ≡ 34) → IsQuote q
quotes q (inl e) = rw e (record { white = refl; quote = refl; newline = refl; backslash = refl; same = refl })
quotes q (inr e) = rw e (record { white = refl; quote = refl; newline = refl; backslash = refl; same = refl })

pub a_quote : (q : ℕ) → is_quote q ≡ true → IsQuote q
a_quote q h = elim (eqb_tells q 39) [
  | inl p ↦ quotes q (inl p.1)
  | inr p ↦ elim (eqb_tells q 34) [
    | inl r ↦ quotes q (inr r.1)
    | inr r ↦ let wrong : false ≡ true = rw (p.0, r.0) at h in cc
  ]
]

-- what is known of a plain octet
pub record IsPlain (c : ℕ) : Type 0 where
  pub white : is_white c ≡ false
  pub quote : is_quote c ≡ false
  pub backslash : (c == 92) ≡ false

pub a_plain : (c : ℕ) → is_plain c ≡ true → IsPlain c
a_plain c h = go (is_white c) (is_quote c) (c == 92) refl refl refl h
  where
    go : (w q b : Bool) → is_white c ≡ w → is_quote c ≡ q → (c == 92) ≡ b → cond w false (cond q false (cond b false true)) ≡ true → IsPlain c
    go true q b ew eq eb e = cc
    go false true b ew eq eb e = cc
    go false false true ew eq eb e = cc
    go false false false ew eq eb e = record { white = ew; quote = eq; backslash = eb }

pub line_behind-append : (line : ℕ) (xs ys : List ℕ) → line_behind line (xs ++ ys) ≡ line_behind (line_behind line xs) ys
line_behind-append line [] ys = refl
line_behind-append line (x ∷ xs) ys = line_behind-append (line_after line x) xs ys

longer_none : (w : PlacedWord) → longer w [] ≡ w
longer_none w = ap (λ (xs : List ℕ). let p : PlacedWord = record { octets = xs; line = w.line } in p) (append-nil w.octets)

longer_twice : (w : PlacedWord) (xs ys : List ℕ) → longer (longer w xs) ys ≡ longer w (xs ++ ys)
longer_twice w xs ys = ap (λ (zs : List ℕ). let p : PlacedWord = record { octets = zs; line = w.line } in p) (append_assoc w.octets xs ys)

behind_some : (b : Backslash) (w : PlacedWord) (line : ℕ) → behind b (Some w) line ≡ Some (longer w (backslash_meant b))
behind_some Dropped w line = ap Some (sym (longer_none w))
behind_some Kept w line = refl

-- an octet behind a backslash
pushed_behind : (b : Backslash) (word : Option PlacedWord) (line c : ℕ) → pushed (behind b word line) line (c ∷ []) ≡ Some (longer (begun word line) (backslash_meant b ++ c ∷ []))
pushed_behind Dropped word line c = refl
pushed_behind Kept word line c = ap Some (longer_twice (begun word line) (92 ∷ []) (c ∷ []))

white_step : (b : Backslash) (line c : ℕ) (word : Option PlacedWord) (ws : List PlacedWord) → is_white c ≡ true →
    step b (at Outside line word ws) c ≡ at Outside (line_after line c) None (ended ws word)
white_step b line c word ws white = rw white refl

quote_step : (b : Backslash) (line q : ℕ) (word : Option PlacedWord) (ws : List PlacedWord) → IsQuote q →
    step b (at Outside line word ws) q ≡ at (Quote q line) line (Some (begun word line)) ws
quote_step b line q word ws quote = rw (quote.white, quote.quote, quote.newline) refl

end_quote_step : (b : Backslash) (line l q : ℕ) (word : Option PlacedWord) (ws : List PlacedWord) → IsQuote q →
    step b (at (Quote q l) line word ws) q ≡ at Outside line word ws
end_quote_step b line l q word ws quote = rw (quote.same, quote.newline) refl

comment_step : (b : Backslash) (line c : ℕ) (ws : List PlacedWord) → (c == 10) ≡ false → step b (at Comment line None ws) c ≡ at Comment line None ws
comment_step b line c ws other = rw other refl

-- Between quotes a mark adds what it stands for.
mark_run : (b : Backslash) (q l line : ℕ) (w : PlacedWord) (ws : List PlacedWord) (mark : Mark) (rest : List ℕ) → IsQuote q → StandsWithin q mark →
    run b (at (Quote q l) line (Some w) ws) (mark_spelled mark ++ rest) ≡ run b (at (Quote q l) (line_behind line (mark_spelled mark)) (Some (longer w (mark_meant b mark))) ws) rest
mark_run b q l line w ws (Bare c) rest quote stands = rw (stands.0, stands.1) refl
mark_run b q l line w ws (Escaped c) rest quote stands = rw (quote.backslash) (ap (λ (word : Option PlacedWord). run b (at (Quote q l) (line_after line c) word ws) rest) (pushed_behind b (Some w) line c))

marks_run : (b : Backslash) (q l line : ℕ) (w : PlacedWord) (ws : List PlacedWord) (marks : List Mark) (rest : List ℕ) → IsQuote q → AllByRecursion (StandsWithin q) marks →
    run b (at (Quote q l) line (Some w) ws) (flat_map mark_spelled marks ++ rest) ≡ run b (at (Quote q l) (line_behind line (flat_map mark_spelled marks)) (Some (longer w (flat_map (mark_meant b) marks))) ws) rest
marks_run b q l line w ws [] rest quote stand = ap (λ (v : PlacedWord). run b (at (Quote q l) line (Some v) ws) rest) (sym (longer_none w))
marks_run b q l line w ws (mark ∷ marks) rest quote stand =
    rw (append_assoc (mark_spelled mark) (flat_map mark_spelled marks) rest, line_behind-append line (mark_spelled mark) (flat_map mark_spelled marks), ← longer_twice w (mark_meant b mark) (flat_map (mark_meant b) marks))
    (mark_run b q l line w ws mark (flat_map mark_spelled marks ++ rest) quote stand.0
    ∙ marks_run b q l (line_behind line (mark_spelled mark)) (longer w (mark_meant b mark)) ws marks rest quote stand.1)

-- A # begins a comment only where no word has begun.
abbrev pub MayFollow : Option PlacedWord → Part → Type 0
MayFollow None part = BeginsNoComment (part ∷ [])
MayFollow (Some word) part = Unit {0}

no_comment : (c : ℕ) (word : Option PlacedWord) → MayFollow word (Loose (Bare c)) → ((c == 35) && is_none word) ≡ false
no_comment c None may = rw may refl
no_comment c (Some word) may = elim (true_or_false (c == 35)) [ inl h ↦ rw h refl | inr h ↦ rw h refl ]

quote_line : (line q : ℕ) → IsQuote q → line_after line q ≡ line
quote_line line q quote = rw quote.newline refl

spelled_line : (line q : ℕ) (marks : List Mark) → IsQuote q → line_behind line (part_spelled (Quoted q marks)) ≡ line_behind line (flat_map mark_spelled marks)
spelled_line line q marks quote =
    ap (λ (l : ℕ). line_behind l (flat_map mark_spelled marks ++ q ∷ [])) (quote_line line q quote)
    ∙ line_behind-append line (flat_map mark_spelled marks) (q ∷ [])
    ∙ quote_line (line_behind line (flat_map mark_spelled marks)) q quote

quoted_run : (b : Backslash) (line q : ℕ) (word : Option PlacedWord) (ws : List PlacedWord) (marks : List Mark) (rest : List ℕ) → IsQuote q → AllByRecursion (StandsWithin q) marks →
    run b (at Outside line word ws) (part_spelled (Quoted q marks) ++ rest) ≡ run b (at Outside (line_behind line (part_spelled (Quoted q marks))) (Some (longer (begun word line) (part_meant b (Quoted q marks)))) ws) rest
quoted_run b line q word ws marks rest quote stand =
    let l = line_behind line (flat_map mark_spelled marks) in
    let w = longer (begun word line) (flat_map (mark_meant b) marks) in
    let line_same : line_behind line (part_spelled (Quoted q marks)) ≡ l = spelled_line line q marks quote in
    rw line_same
    (ap (λ (s : State). run b s ((flat_map mark_spelled marks ++ q ∷ []) ++ rest)) (quote_step b line q word ws quote)
    ∙ ap (λ (xs : List ℕ). run b (at (Quote q line) line (Some (begun word line)) ws) xs) (append_assoc (flat_map mark_spelled marks) (q ∷ []) rest)
    ∙ marks_run b q line line (begun word line) ws marks (q ∷ rest) quote stand
    ∙ ap (λ (s : State). run b s rest) (end_quote_step b l line q (Some w) ws quote))

part_run : (b : Backslash) (line : ℕ) (word : Option PlacedWord) (ws : List PlacedWord) (part : Part) (rest : List ℕ) → IsPart part → MayFollow word part →
    run b (at Outside line word ws) (part_spelled part ++ rest) ≡ run b (at Outside (line_behind line (part_spelled part)) (Some (longer (begun word line) (part_meant b part))) ws) rest
part_run b line word ws (Loose (Bare c)) rest is may =
    let plain = a_plain c is in
    rw (plain.white, plain.quote, plain.backslash, no_comment c word may) refl
part_run b line word ws (Loose (Escaped c)) rest is may = ap (λ (longer : Option PlacedWord). run b (at Outside (line_after line c) longer ws) rest) (pushed_behind b word line c)
part_run b line word ws (Quoted q marks) rest is may = quoted_run b line q word ws marks rest (a_quote q is.0) is.1

parts_run : (b : Backslash) (line : ℕ) (w : PlacedWord) (ws : List PlacedWord) (parts : List Part) (rest : List ℕ) → AllByRecursion IsPart parts →
    run b (at Outside line (Some w) ws) (flat_map part_spelled parts ++ rest) ≡ run b (at Outside (line_behind line (flat_map part_spelled parts)) (Some (longer w (flat_map (part_meant b) parts))) ws) rest
parts_run b line w ws [] rest each = ap (λ (v : PlacedWord). run b (at Outside line (Some v) ws) rest) (sym (longer_none w))
parts_run b line w ws (part ∷ parts) rest each =
    rw (append_assoc (part_spelled part) (flat_map part_spelled parts) rest, line_behind-append line (part_spelled part) (flat_map part_spelled parts), ← longer_twice w (part_meant b part) (flat_map (part_meant b) parts))
    (part_run b line (Some w) ws part (flat_map part_spelled parts ++ rest) each.0 tt
    ∙ parts_run b (line_behind line (part_spelled part)) (longer w (part_meant b part)) ws parts rest each.1)

-- the parts with which a word begins
first_run : (b : Backslash) (line : ℕ) (ws : List PlacedWord) (part : Part) (parts : List Part) (rest : List ℕ) → AreParts (part ∷ parts) →
    run b (at Outside line None ws) (flat_map part_spelled (part ∷ parts) ++ rest) ≡ run b (at Outside (line_behind line (flat_map part_spelled (part ∷ parts))) (Some (word_of b line (part ∷ parts))) ws) rest
first_run b line ws part parts rest are =
    rw (append_assoc (part_spelled part) (flat_map part_spelled parts) rest, line_behind-append line (part_spelled part) (flat_map part_spelled parts))
    (part_run b line None ws part (flat_map part_spelled parts ++ rest) are.each.0 (begins part parts are.begin)
    ∙ parts_run b (line_behind line (part_spelled part)) (longer (begun None line) (part_meant b part)) ws parts rest are.each.1)
  where
    begins : (part : Part) (parts : List Part) → BeginsNoComment (part ∷ parts) → BeginsNoComment (part ∷ [])
    begins (Loose (Bare c)) parts h = h
    begins (Loose (Escaped c)) parts h = tt
    begins (Quoted q marks) parts h = tt

comment_run : (b : Backslash) (line : ℕ) (ws : List PlacedWord) (octets rest : List ℕ) → AllByRecursion (λ (octet : ℕ). (octet == 10) ≡ false) octets →
    run b (at Comment line None ws) (octets ++ rest) ≡ run b (at Comment line None ws) rest
comment_run b line ws [] rest each = refl
comment_run b line ws (c ∷ cs) rest each = ap (λ (s : State). run b s (cs ++ rest)) (comment_step b line c ws each.0) ∙ comment_run b line ws cs rest each.1

-- a word ends where white space or nothing follows
word_ends : (b : Backslash) (line : ℕ) (w : PlacedWord) (ws : List PlacedWord) (text : Text) → EndsWord text → IsText text →
    run b (at Outside line (Some w) ws) (spelled text) ≡ run b (at Outside line None (ws ++ w ∷ [])) (spelled text)
word_ends b line w ws made.End ends is = refl
word_ends b line w ws (made.White c text) ends is =
    ap (λ (s : State). run b s (spelled text)) (white_step b line c (Some w) ws is.0 ∙ sym (white_step b line c None (ws ++ w ∷ []) is.0))
word_ends b line w ws (made.Comment octets text) ends is = absurd ends
word_ends b line w ws (made.WordOf parts text) ends is = absurd ends
word_ends b line w ws (made.Trailing parts) ends is = absurd ends
word_ends b line w ws (made.Unclosed parts q marks last) ends is = absurd ends

comment_ends : (b : Backslash) (line : ℕ) (ws : List PlacedWord) (text : Text) → EndsLine text →
    run b (at Comment line None ws) (spelled text) ≡ run b (at Outside line None ws) (spelled text)
comment_ends b line ws made.End ends = refl
comment_ends b line ws (made.White c text) ends = elim (eqb_tells c 10) [ inl p ↦ rw p.1 refl | inr p ↦ let wrong : false ≡ true = rw p.0 at ends in cc ]
comment_ends b line ws (made.Comment octets text) ends = absurd ends
comment_ends b line ws (made.WordOf parts text) ends = absurd ends
comment_ends b line ws (made.Trailing parts) ends = absurd ends
comment_ends b line ws (made.Unclosed parts q marks last) ends = absurd ends

-- words as a front with this open quote, or with none
abbrev front_with : Option ℕ → List PlacedWord → Front
front_with open_quote words = record { words = words; open_quote = open_quote }

with_words_twice : (ws vs : List PlacedWord) (front : Front) → with_words (ws ++ vs) front ≡ with_words ws (with_words vs front)
with_words_twice ws vs front = ap (front_with front.open_quote) (append_assoc ws vs front.words)

trailing_run : (b : Backslash) (line : ℕ) (ws : List PlacedWord) (parts : List Part) → AreParts parts →
    run b (at Outside line None ws) (flat_map part_spelled parts ++ 92 ∷ []) ≡ all_words (ws ++ last_words b line parts)
trailing_run Dropped line ws [] are = ap all_words (sym (append-nil ws))
trailing_run Kept line ws [] are = refl
trailing_run Dropped line ws (part ∷ parts) are = first_run Dropped line ws part parts (92 ∷ []) are
trailing_run Kept line ws (part ∷ parts) are = first_run Kept line ws part parts (92 ∷ []) are

-- the parts with which a word begins, or none
some_run : (b : Backslash) (line : ℕ) (ws : List PlacedWord) (parts : List Part) (rest : List ℕ) → AreParts parts →
    (word : Option PlacedWord) × (run b (at Outside line None ws) (flat_map part_spelled parts ++ rest) ≡ run b (at Outside (line_behind line (flat_map part_spelled parts)) word ws) rest)
some_run b line ws [] rest are = (None, refl)
some_run b line ws (part ∷ parts) rest are = (Some (word_of b line (part ∷ parts)), first_run b line ws part parts rest are)

never_closed : (b : Backslash) (q l line : ℕ) (w : PlacedWord) (ws : List PlacedWord) (last : Bool) → IsQuote q → run b (at (Quote q l) line (Some w) ws) (last_backslash last) ≡ front_with (Some l) ws
never_closed b q l line w ws false quote = refl
never_closed b q l line w ws true quote = rw quote.backslash refl

unclosed_run : (b : Backslash) (line q : ℕ) (ws : List PlacedWord) (parts : List Part) (marks : List Mark) (last : Bool) → AreParts parts → IsQuote q → AllByRecursion (StandsWithin q) marks →
    run b (at Outside line None ws) (flat_map part_spelled parts ++ (q ∷ flat_map mark_spelled marks ++ last_backslash last)) ≡ front_with (Some (line_behind line (flat_map part_spelled parts))) ws
unclosed_run b line q ws parts marks last are quote stand =
    let before = some_run b line ws parts (q ∷ flat_map mark_spelled marks ++ last_backslash last) are in
    let l = line_behind line (flat_map part_spelled parts) in
    before.1
    ∙ ap (λ (s : State). run b s (flat_map mark_spelled marks ++ last_backslash last)) (quote_step b l q before.0 ws quote)
    ∙ (marks_run b q l l (begun before.0 l) ws marks (last_backslash last) quote stand
    ∙ never_closed b q l (line_behind l (flat_map mark_spelled marks)) (longer (begun before.0 l) (flat_map (mark_meant b) marks)) ws last quote)

-- What is read of a text is what it means.
pub text_run : (b : Backslash) (line : ℕ) (ws : List PlacedWord) (text : Text) → IsText text → run b (at Outside line None ws) (spelled text) ≡ with_words ws (words_from b line text)
text_run b line ws made.End is = ap all_words (sym (append-nil ws))
text_run b line ws (made.White c text) is =
    ap (λ (s : State). run b s (spelled text)) (white_step b line c None ws is.0) ∙ text_run b (line_after line c) ws text is.1
text_run b line ws (made.Comment octets text) is =
    comment_run b line ws octets (spelled text) is.0 ∙ comment_ends b line ws text is.1 ∙ text_run b line ws text is.2
text_run b line ws (made.WordOf [] text) is = absurd (is.0 refl)
text_run b line ws (made.WordOf (part ∷ parts) text) is =
    let l = line_behind line (flat_map part_spelled (part ∷ parts)) in
    let w = word_of b line (part ∷ parts) in
    first_run b line ws part parts (spelled text) is.1
    ∙ word_ends b l w ws text is.2 is.3
    ∙ text_run b l (ws ++ w ∷ []) text is.3
    ∙ with_words_twice ws (w ∷ []) (words_from b l text)
text_run b line ws (made.Trailing parts) is = trailing_run b line ws parts is
text_run b line ws (made.Unclosed parts q marks last) is =
    rw (append_assoc (flat_map part_spelled parts) (q ∷ flat_map mark_spelled marks) (last_backslash last))
    (unclosed_run b line q ws parts marks last is.0 (a_quote q is.1) is.2
    ∙ ap (front_with (Some (line_behind line (flat_map part_spelled parts)))) (sym (append-nil ws)))
