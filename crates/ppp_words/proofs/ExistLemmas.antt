-- Any octets are a text.
use Rattle.std.proofs.Common.{◌≡◌, ◌≢◌, ℕ, ◌⊎◌, Bool, true, false, List, [], ◌∷◌, ◌++◌, refl, ap, sym, ◌∙◌, inl, inr, append_assoc}
use Rattle.std.proofs.lemmas.Bool.Decides.{eqb_tells}
use Rattle.std.specs.Prelude.{◌==◌}
use Rattle.std.specs.List.{flat_map, AllByRecursion}
use Rattle.ppp_words.specs.Octets.{is_white, is_quote, is_plain}
use Rattle.ppp_words.specs.Parts.{Mark, Bare, Escaped, Part, Loose, Quoted, mark_spelled, part_spelled, StandsWithin, IsPart, BeginsNoComment}
use Rattle.ppp_words.specs.Text as made
use Rattle.ppp_words.specs.Text.{Text, last_backslash, spelled, EndsLine, EndsWord, IsText}
use Rattle.ppp_words.proofs.RunLemmas.{true_or_false}

-- what is left of a text from the midst of a word on
data Rest : Type 0 where
  Whole : List Part → Text → Rest
  Trails : List Part → Rest
  Opens : List Part → ℕ → List Mark → Bool → Rest

abbrev rest_spelled : Rest → List ℕ
rest_spelled (Whole parts text) = flat_map part_spelled parts ++ spelled text
rest_spelled (Trails parts) = flat_map part_spelled parts ++ 92 ∷ []
rest_spelled (Opens parts q marks last) = flat_map part_spelled parts ++ q ∷ flat_map mark_spelled marks ++ last_backslash last

abbrev IsRest : Rest → Type 0
IsRest (Whole parts text) = AllByRecursion IsPart parts × EndsWord text × IsText text
IsRest (Trails parts) = AllByRecursion IsPart parts
IsRest (Opens parts q marks last) = AllByRecursion IsPart parts × (is_quote q ≡ true) × AllByRecursion (StandsWithin q) marks

-- a part, and then the rest
abbrev onto : Part → Rest → Rest
onto part (Whole parts text) = Whole (part ∷ parts) text
onto part (Trails parts) = Trails (part ∷ parts)
onto part (Opens parts q marks last) = Opens (part ∷ parts) q marks last

onto_spelled : (part : Part) (rest : Rest) → rest_spelled (onto part rest) ≡ part_spelled part ++ rest_spelled rest
onto_spelled part (Whole parts text) = append_assoc (part_spelled part) (flat_map part_spelled parts) (spelled text)
onto_spelled part (Trails parts) = append_assoc (part_spelled part) (flat_map part_spelled parts) (92 ∷ [])
onto_spelled part (Opens parts q marks last) =
    ap (λ (xs : List ℕ). xs ++ last_backslash last) (append_assoc (part_spelled part) (flat_map part_spelled parts) (q ∷ flat_map mark_spelled marks))
    ∙ append_assoc (part_spelled part) (flat_map part_spelled parts ++ q ∷ flat_map mark_spelled marks) (last_backslash last)

onto_is : (part : Part) (rest : Rest) → IsPart part → IsRest rest → IsRest (onto part rest)
onto_is part (Whole parts text) is rests = ((is, rests.0), rests.1, rests.2)
onto_is part (Trails parts) is rests = (is, rests)
onto_is part (Opens parts q marks last) is rests = ((is, rests.0), rests.1, rests.2)

-- a text that begins with this part
abbrev text_of : Part → Rest → Text
text_of part (Whole parts text) = made.WordOf (part ∷ parts) text
text_of part (Trails parts) = made.Trailing (part ∷ parts)
text_of part (Opens parts q marks last) = made.Unclosed (part ∷ parts) q marks last

text_spelled : (part : Part) (rest : Rest) → spelled (text_of part rest) ≡ part_spelled part ++ rest_spelled rest
text_spelled part (Whole parts text) = onto_spelled part (Whole parts text)
text_spelled part (Trails parts) = onto_spelled part (Trails parts)
text_spelled part (Opens parts q marks last) = onto_spelled part (Opens parts q marks last)

more_parts : (part : Part) (parts : List Part) → BeginsNoComment (part ∷ []) → BeginsNoComment (part ∷ parts)
more_parts (Loose (Bare c)) parts h = h
more_parts (Loose (Escaped c)) parts h = tt
more_parts (Quoted q marks) parts h = tt

some_parts : (part : Part) (parts : List Part) → part ∷ parts ≢ []
some_parts part parts e = cc

text_is : (part : Part) (rest : Rest) → IsPart part → BeginsNoComment (part ∷ []) → IsRest rest → IsText (text_of part rest)
text_is part (Whole parts text) is begin rests = (some_parts part parts, record { each = (is, rests.0); begin = more_parts part parts begin }, rests.1, rests.2)
text_is part (Trails parts) is begin rests = record { each = (is, rests); begin = more_parts part parts begin }
text_is part (Opens parts q marks last) is begin rests = (record { each = (is, rests.0); begin = more_parts part parts begin }, rests.1, rests.2)

-- where an octet may stand
data Kind : Type 0 where
  -- where a word may begin
  Fresh : Kind
  -- in a word
  Within : Kind
  -- behind a backslash
  Behind : Kind
  InComment : Kind
  InQuote : ℕ → Kind
  -- behind a backslash in quotes
  BehindInQuote : ℕ → Kind

record Begins (xs : List ℕ) : Type 0 where
  text : Text
  is : IsText text
  same : xs ≡ spelled text

record GoesOn (xs : List ℕ) : Type 0 where
  rest : Rest
  is : IsRest rest
  same : xs ≡ rest_spelled rest

record EscapeGoesOn (xs : List ℕ) : Type 0 where
  octet : ℕ
  rest : Rest
  is : IsRest rest
  same : xs ≡ octet ∷ rest_spelled rest

record CommentGoesOn (xs : List ℕ) : Type 0 where
  octets : List ℕ
  text : Text
  each : AllByRecursion (λ (octet : ℕ). (octet == 10) ≡ false) octets
  ends : EndsLine text
  is : IsText text
  same : xs ≡ octets ++ spelled text

-- the quote is closed
record Closes (q : ℕ) (xs : List ℕ) : Type 0 where
  marks : List Mark
  rest : Rest
  each : AllByRecursion (StandsWithin q) marks
  is : IsRest rest
  same : xs ≡ flat_map mark_spelled marks ++ q ∷ rest_spelled rest

-- the quote is never closed
record Never (q : ℕ) (xs : List ℕ) : Type 0 where
  marks : List Mark
  last : Bool
  each : AllByRecursion (StandsWithin q) marks
  same : xs ≡ flat_map mark_spelled marks ++ last_backslash last

abbrev QuoteGoesOn : ℕ → List ℕ → Type 0
QuoteGoesOn q xs = Closes q xs ⊎ Never q xs

record QuoteEscapeGoesOn (q : ℕ) (xs : List ℕ) : Type 0 where
  octet : ℕ
  octets : List ℕ
  after : QuoteGoesOn q octets
  same : xs ≡ octet ∷ octets

abbrev Follows : Kind → List ℕ → Type 0
Follows Fresh xs = Begins xs
Follows Within xs = GoesOn xs
Follows Behind xs = EscapeGoesOn xs ⊎ (xs ≡ [])
Follows InComment xs = CommentGoesOn xs
Follows (InQuote q) xs = QuoteGoesOn q xs
Follows (BehindInQuote q) xs = QuoteEscapeGoesOn q xs ⊎ (xs ≡ [])

-- a part, and then the rest of a word
begins_with : (part : Part) (rest : Rest) (xs : List ℕ) → IsPart part → BeginsNoComment (part ∷ []) → IsRest rest → xs ≡ part_spelled part ++ rest_spelled rest → Begins xs
begins_with part rest xs is begin rests same = record { text = text_of part rest; is = text_is part rest is begin rests; same = same ∙ sym (text_spelled part rest) }

goes_on_with : (part : Part) (rest : Rest) (xs : List ℕ) → IsPart part → IsRest rest → xs ≡ part_spelled part ++ rest_spelled rest → GoesOn xs
goes_on_with part rest xs is rests same = record { rest = onto part rest; is = onto_is part rest is rests; same = same ∙ sym (onto_spelled part rest) }

-- how quotes are spelled before the rest
quoted_same : (q : ℕ) (marks : List Mark) (rest : Rest) (xs : List ℕ) → xs ≡ flat_map mark_spelled marks ++ q ∷ rest_spelled rest → q ∷ xs ≡ part_spelled (Quoted q marks) ++ rest_spelled rest
quoted_same q marks rest xs same = ap (λ (ys : List ℕ). q ∷ ys) (same ∙ sym (append_assoc (flat_map mark_spelled marks) (q ∷ []) (rest_spelled rest)))

begins_comment : (xs : List ℕ) → CommentGoesOn xs → Begins (35 ∷ xs)
begins_comment xs on = record { text = made.Comment on.octets on.text; is = (on.each, on.ends, on.is); same = ap (λ (ys : List ℕ). 35 ∷ ys) on.same }

begins_white : (c : ℕ) (xs : List ℕ) → is_white c ≡ true → Begins xs → Begins (c ∷ xs)
begins_white c xs white on = record { text = made.White c on.text; is = (white, on.is); same = ap (λ (ys : List ℕ). c ∷ ys) on.same }

begins_quote : (q : ℕ) (xs : List ℕ) → is_quote q ≡ true → QuoteGoesOn q xs → Begins (q ∷ xs)
begins_quote q xs quote (inl on) = begins_with (Quoted q on.marks) on.rest (q ∷ xs) (quote, on.each) tt on.is (quoted_same q on.marks on.rest xs on.same)
begins_quote q xs quote (inr on) = record {
  text = made.Unclosed [] q on.marks on.last;
  is = (record { each = tt; begin = tt }, quote, on.each);
  same = ap (λ (ys : List ℕ). q ∷ ys) on.same;
}

begins_escape : (xs : List ℕ) → Follows Behind xs → Begins (92 ∷ xs)
begins_escape xs (inl on) = begins_with (Loose (Escaped on.octet)) on.rest (92 ∷ xs) tt tt on.is (ap (λ (ys : List ℕ). 92 ∷ ys) on.same)
begins_escape xs (inr none) = record { text = made.Trailing []; is = record { each = tt; begin = tt }; same = ap (λ (ys : List ℕ). 92 ∷ ys) none }

begins_plain : (c : ℕ) (xs : List ℕ) → is_plain c ≡ true → (c == 35) ≡ false → GoesOn xs → Begins (c ∷ xs)
begins_plain c xs plain no_comment on = begins_with (Loose (Bare c)) on.rest (c ∷ xs) plain no_comment on.is (ap (λ (ys : List ℕ). c ∷ ys) on.same)

goes_on_white : (c : ℕ) (xs : List ℕ) → is_white c ≡ true → Begins xs → GoesOn (c ∷ xs)
goes_on_white c xs white on = record { rest = Whole [] (made.White c on.text); is = (tt, tt, (white, on.is)); same = ap (λ (ys : List ℕ). c ∷ ys) on.same }

goes_on_quote : (q : ℕ) (xs : List ℕ) → is_quote q ≡ true → QuoteGoesOn q xs → GoesOn (q ∷ xs)
goes_on_quote q xs quote (inl on) = goes_on_with (Quoted q on.marks) on.rest (q ∷ xs) (quote, on.each) on.is (quoted_same q on.marks on.rest xs on.same)
goes_on_quote q xs quote (inr on) = record { rest = Opens [] q on.marks on.last; is = (tt, quote, on.each); same = ap (λ (ys : List ℕ). q ∷ ys) on.same }

goes_on_escape : (xs : List ℕ) → Follows Behind xs → GoesOn (92 ∷ xs)
goes_on_escape xs (inl on) = goes_on_with (Loose (Escaped on.octet)) on.rest (92 ∷ xs) tt on.is (ap (λ (ys : List ℕ). 92 ∷ ys) on.same)
goes_on_escape xs (inr none) = record { rest = Trails []; is = tt; same = ap (λ (ys : List ℕ). 92 ∷ ys) none }

goes_on_plain : (c : ℕ) (xs : List ℕ) → is_plain c ≡ true → GoesOn xs → GoesOn (c ∷ xs)
goes_on_plain c xs plain on = goes_on_with (Loose (Bare c)) on.rest (c ∷ xs) plain on.is (ap (λ (ys : List ℕ). c ∷ ys) on.same)

plain_octet : (c : ℕ) → is_white c ≡ false → is_quote c ≡ false → (c == 92) ≡ false → is_plain c ≡ true
plain_octet c white quote backslash = rw (white, quote, backslash) refl

-- where a word may begin
fresh_next : (c : ℕ) (xs : List ℕ) → Begins xs → GoesOn xs → Follows Behind xs → CommentGoesOn xs → QuoteGoesOn c xs → Begins (c ∷ xs)
fresh_next c xs fresh within behind comment quote = elim (true_or_false (is_white c)) [
  | inl white ↦ begins_white c xs white fresh
  | inr white ↦ elim (true_or_false (is_quote c)) [
    | inl is ↦ begins_quote c xs is quote
    | inr is ↦ elim (eqb_tells c 92) [
      | inl p ↦ rw p.1 (begins_escape xs behind)
      | inr p ↦ elim (eqb_tells c 35) [
        | inl r ↦ rw r.1 (begins_comment xs comment)
        | inr r ↦ begins_plain c xs (plain_octet c white is p.0) r.0 within
      ]
    ]
  ]
]

-- in a word
within_next : (c : ℕ) (xs : List ℕ) → Begins xs → GoesOn xs → Follows Behind xs → QuoteGoesOn c xs → GoesOn (c ∷ xs)
within_next c xs fresh within behind quote = elim (true_or_false (is_white c)) [
  | inl white ↦ goes_on_white c xs white fresh
  | inr white ↦ elim (true_or_false (is_quote c)) [
    | inl is ↦ goes_on_quote c xs is quote
    | inr is ↦ elim (eqb_tells c 92) [
      | inl p ↦ rw p.1 (goes_on_escape xs behind)
      | inr p ↦ goes_on_plain c xs (plain_octet c white is p.0) within
    ]
  ]
]

comment_next : (c : ℕ) (xs : List ℕ) → Begins xs → CommentGoesOn xs → CommentGoesOn (c ∷ xs)
comment_next c xs fresh comment = elim (eqb_tells c 10) [
  | inl p ↦ record { octets = []; text = made.White c fresh.text; each = tt; ends = p.0; is = (rw p.1 refl, fresh.is); same = ap (λ (ys : List ℕ). c ∷ ys) fresh.same }
  | inr p ↦ record { octets = c ∷ comment.octets; text = comment.text; each = (p.0, comment.each); ends = comment.ends; is = comment.is; same = ap (λ (ys : List ℕ). c ∷ ys) comment.same }
]

-- one more mark in quotes
mark_next : (q : ℕ) (mark : Mark) (xs : List ℕ) → StandsWithin q mark → QuoteGoesOn q xs → QuoteGoesOn q (mark_spelled mark ++ xs)
mark_next q mark xs stands (inl on) = inl (record {
  marks = mark ∷ on.marks;
  rest = on.rest;
  each = (stands, on.each);
  is = on.is;
  same = ap (λ (ys : List ℕ). mark_spelled mark ++ ys) on.same ∙ sym (append_assoc (mark_spelled mark) (flat_map mark_spelled on.marks) (q ∷ rest_spelled on.rest));
})
mark_next q mark xs stands (inr on) = inr (record {
  marks = mark ∷ on.marks;
  last = on.last;
  each = (stands, on.each);
  same = ap (λ (ys : List ℕ). mark_spelled mark ++ ys) on.same ∙ sym (append_assoc (mark_spelled mark) (flat_map mark_spelled on.marks) (last_backslash on.last));
})

quote_escape : (q : ℕ) (xs : List ℕ) → Follows (BehindInQuote q) xs → QuoteGoesOn q (92 ∷ xs)
quote_escape q xs (inl on) = rw on.same (mark_next q (Escaped on.octet) on.octets tt on.after)
quote_escape q xs (inr none) = inr (record { marks = []; last = true; each = tt; same = ap (λ (ys : List ℕ). 92 ∷ ys) none })

quote_next : (q c : ℕ) (xs : List ℕ) → GoesOn xs → QuoteGoesOn q xs → Follows (BehindInQuote q) xs → QuoteGoesOn q (c ∷ xs)
quote_next q c xs within quote behind = elim (eqb_tells c q) [
  | inl p ↦ inl (record { marks = []; rest = within.rest; each = tt; is = within.is; same = rw p.1 (ap (λ (ys : List ℕ). q ∷ ys) within.same) })
  | inr p ↦ elim (eqb_tells c 92) [
    | inl r ↦ rw r.1 (quote_escape q xs behind)
    | inr r ↦ mark_next q (Bare c) xs (p.0, r.0) quote
  ]
]

follows : (kind : Kind) (xs : List ℕ) → Follows kind xs
follows Fresh [] = record { text = made.End; is = tt; same = refl }
follows Fresh (c ∷ xs) = fresh_next c xs (follows Fresh xs) (follows Within xs) (follows Behind xs) (follows InComment xs) (follows (InQuote c) xs)
follows Within [] = record { rest = Whole [] made.End; is = (tt, tt, tt); same = refl }
follows Within (c ∷ xs) = within_next c xs (follows Fresh xs) (follows Within xs) (follows Behind xs) (follows (InQuote c) xs)
follows Behind [] = inr refl
follows Behind (c ∷ xs) = let on = follows Within xs in inl (record { octet = c; rest = on.rest; is = on.is; same = ap (λ (ys : List ℕ). c ∷ ys) on.same })
follows InComment [] = record { octets = []; text = made.End; each = tt; ends = tt; is = tt; same = refl }
follows InComment (c ∷ xs) = comment_next c xs (follows Fresh xs) (follows InComment xs)
follows (InQuote q) [] = inr (record { marks = []; last = false; each = tt; same = refl })
follows (InQuote q) (c ∷ xs) = quote_next q c xs (follows Within xs) (follows (InQuote q) xs) (follows (BehindInQuote q) xs)
follows (BehindInQuote q) [] = inr refl
follows (BehindInQuote q) (c ∷ xs) = inl (record { octet = c; octets = xs; after = follows (InQuote q) xs; same = refl })

-- Any octets are a text.
pub some_text : (octets : List ℕ) → (text : Text) × IsText text × (octets ≡ spelled text)
some_text octets = let on = follows Fresh octets in (on.text, on.is, on.same)
