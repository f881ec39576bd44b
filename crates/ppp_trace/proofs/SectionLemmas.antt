-- Sections of a full trace.
use Rattle.std.proofs.Common.{◌≡◌, ◌≢◌, MatchOption, drop, ℕ, zero, suc, ◌+◌, ◌<◌, ◌≤◌, ◌⊎◌, Bool, true, false, List, [], ◌∷◌, ◌++◌, length, Option, None, Some, refl, ap, sym, subst, ◌∙◌, arith, inl, inr, get_or, slice_get, append_assoc, append-nil, length-append}
use Rattle.std.specs.List.{list_all}
use Rattle.std.specs.Prelude.{nat_lt, min, ◌*◌, ◌==◌, ◌&&◌, if◌then◌else◌, option_map, IfSome}
use Rattle.std.proofs.Math.Seq.{drop-append_seam}
use Rattle.std.proofs.lemmas.Bool.{cases_lt}
use Rattle.std.proofs.lemmas.Bool.Decides.{eqb_tells, nat_tests}
use Rattle.ppp_base.specs.Numbers.{is_digit}
use Rattle.ppp_mark.specs.Lines.{lines_of, onto_first}
use Rattle.ppp_report.proofs.NumberLemmas.{digit_range}
use Rattle.ppp_trace.specs.FullTrace.{FirstLong, IsCount, IsLong, Line, NoSection, SaysCount, text_of}
use Rattle.ppp_trace.specs.Sections.{ReadsSection, TakesLines, with_long}
use Rattle.ppp_trace.specs.declared.sections.Section.{Section}
use Rattle.ppp_trace.specs.declared.sections.TakenLines.{TakenLines}
use Rattle.ppp_trace.specs.declared.TheConstants.{MOST_LINE}

-- ---- lines that are too long

long_behind : (line : Line) (lines : List Line) (k : ℕ) → IsLong lines k → IsLong (line ∷ lines) (suc k)
long_behind line lines k long = record { line = long.line; stands = long.stands; long = long.long }

long_tail : (line : Line) (lines : List Line) (k : ℕ) → IsLong (line ∷ lines) (suc k) → IsLong lines k
long_tail line lines k long = record { line = long.line; stands = long.stands; long = long.long }

pub long_within : (lines : List Line) (k : ℕ) → IsLong lines k → k < length lines
long_within [] k long = absurd (nowhere k long.line long.stands)
  where
    nowhere : (k : ℕ) (line : Line) → slice_get [] k ≡ Some line → ⊥
    nowhere k line e = cc
long_within (l ∷ lines) zero long = omega arith
long_within (l ∷ lines) (suc k) long = omega (arith, long_within lines k (long_tail l lines k long))

long_keeps : (own more : List Line) (k : ℕ) → IsLong own k → IsLong (own ++ more) k
long_keeps [] more k long = absurd (omega (arith, long_within [] k long))
long_keeps (l ∷ own) more zero long = record { line = long.line; stands = long.stands; long = long.long }
long_keeps (l ∷ own) more (suc k) long = long_behind l (own ++ more) k (long_keeps own more k (long_tail l own k long))

long_last : (own : List Line) (line : Line) → MOST_LINE < length line → IsLong (own ++ line ∷ []) (length own)
long_last [] line long = record { line = line; stands = refl; long = long }
long_last (l ∷ own) line long = long_behind l (own ++ line ∷ []) (length own) (long_last own line long)

head_long : (line : Line) (lines : List Line) → IsLong (line ∷ lines) 0 → MOST_LINE < length line
head_long line lines long = subst (λ l. MOST_LINE < length l) (same line long.line long.stands) long.long
  where
    same : (a b : Line) → Some a ≡ Some b → b ≡ a
    same a b e = cc

long_parts : (own : List Line) (line : Line) (k : ℕ) → IsLong (own ++ line ∷ []) k → IsLong own k ⊎ ((k ≡ length own) × (MOST_LINE < length line))
long_parts [] line zero long = inr (refl, head_long line [] long)
long_parts [] line (suc k) long = absurd (omega (arith, long_within (line ∷ []) (suc k) long))
long_parts (l ∷ own) line zero long = inl (record { line = long.line; stands = long.stands; long = long.long })
long_parts (l ∷ own) line (suc k) long = elim (long_parts own line k (long_tail l (own ++ line ∷ []) k long)) [
  | inl before ↦ inl (long_behind l own k before)
  | inr here ↦ inr (ap suc here.0, here.1)
]

pub first_long_more : (own : List Line) (line : Line) (long : Option ℕ) → FirstLong own long → FirstLong (own ++ line ∷ []) (with_long long line (length own))
first_long_more own line (Some k) first = (
  long_keeps own (line ∷ []) k first.0,
  λ other long. elim (long_parts own line other long) [ inl before ↦ first.1 other before | inr here ↦ omega (arith, here.0, long_within own k first.0) ],
)
first_long_more own line None first = elim (cases_lt MOST_LINE (length line)) [
  | inl high ↦ rw (yes (length line) high) (
    long_last own line high,
    λ other long. elim (long_parts own line other long) [ inl before ↦ absurd (first other before) | inr here ↦ omega (arith, here.0) ],
  )
  | inr low ↦ rw (fits (length line) low) (λ other long. elim (long_parts own line other long) [ inl before ↦ first other before | inr here ↦ omega (arith, here.1, low) ])
]
  where
    yes : (n : ℕ) → MOST_LINE < n → nat_lt MOST_LINE n ≡ true
    yes n h = grind (arith, nat_tests)

    fits : (n : ℕ) → n ≤ MOST_LINE → nat_lt MOST_LINE n ≡ false
    fits n h = grind (arith, nat_tests)

-- ---- lines that were taken

pub record Taken (text rest items : List ℕ) (count : ℕ) (long : Option ℕ) : Type 0 where
  pub own : List Line
  pub lines : lines_of text ≡ own ++ lines_of rest
  pub copied : items ≡ text_of own
  pub counted : count ≡ length own
  pub first : FirstLong own long

pub taken_none : (text : List ℕ) → Taken text text [] 0 None
taken_none text = record { own = []; lines = refl; copied = refl; counted = refl; first = λ place long. absurd (omega (arith, long_within [] place long)) }

text_more : (own : List Line) (line : Line) → text_of own ++ (line ++ 10 ∷ []) ≡ text_of (own ++ line ∷ [])
text_more [] line = sym (append-nil (line ++ 10 ∷ []))
text_more (l ∷ own) line = append_assoc (l ++ 10 ∷ []) (text_of own) (line ++ 10 ∷ []) ∙ ap (λ t. (l ++ 10 ∷ []) ++ t) (text_more own line)

pub taken_more : (text rest others items items' : List ℕ) (line : Line) (count : ℕ) (long : Option ℕ) → Taken text rest items count long → lines_of rest ≡ line ∷ lines_of others
    → items' ≡ (items ++ line) ++ 10 ∷ [] → Taken text others items' (count + 1) (with_long long line count)
taken_more text rest others items items' line count long t lines is = record {
  own = t.own ++ line ∷ [];
  lines = t.lines ∙ ap (λ ls. t.own ++ ls) lines ∙ sym (append_assoc t.own (line ∷ []) (lines_of others));
  copied = is ∙ append_assoc items line (10 ∷ []) ∙ ap (λ xs. xs ++ (line ++ 10 ∷ [])) t.copied ∙ text_more t.own line;
  counted = ap (λ n. n + 1) t.counted ∙ sym (length-append t.own (line ∷ []));
  first = subst (λ n. FirstLong (t.own ++ line ∷ []) (with_long long line n)) (sym t.counted) (first_long_more t.own line long t.first);
}

-- ---- the number of lines

pub all_at : (ds : List ℕ) (k : ℕ) → list_all is_digit ds ≡ true → k < length ds → is_digit (get_or ds k 0) ≡ true
all_at [] k all within = absurd (omega (arith, within))
all_at (d ∷ ds) zero all within = first-true (is_digit d) (list_all is_digit ds) all
  where
    first-true : (a b : Bool) → (a && b) ≡ true → a ≡ true
    first-true true b e = refl
    first-true false b e = absurd (cc)
all_at (d ∷ ds) (suc k) all within = all_at ds k (rest-true (is_digit d) (list_all is_digit ds) all) (omega (arith, within))
  where
    rest-true : (a b : Bool) → (a && b) ≡ true → b ≡ true
    rest-true true b e = e
    rest-true false b e = absurd (cc)

pub not_digit : (octet : ℕ) → (octet < 48) ⊎ (57 < octet) → is_digit octet ≡ true → ⊥
not_digit octet (inl low) is = let range = digit_range octet is in omega (arith, low, range.0)
not_digit octet (inr high) is = let range = digit_range octet is in omega (arith, high, range.1)

pub saturates : (count value digit times sum : ℕ) → count ≡ min value 18446744073709551615 → times ≡ min (count * 10) 18446744073709551615
    → sum ≡ min (times + digit) 18446744073709551615 → sum ≡ min (value * 10 + digit) 18446744073709551615
saturates count value digit times sum is by_ten plus = omega (arith, is, by_ten, plus)

-- What a name and a space are followed by.
cancel : (xs ys zs : List ℕ) → xs ++ ys ≡ xs ++ zs → ys ≡ zs
cancel xs ys zs e = sym (drop-append_seam xs ys) ∙ ap (drop (length xs)) e ∙ drop-append_seam xs zs

pub count_cases : (name line behind digits : List ℕ) (read : Option ℕ) → line ≡ name ++ behind → behind ≡ 32 ∷ digits
    → MatchOption read ((n : ℕ) → IsCount digits n → ⊥) (λ count. (n : ℕ) × IsCount digits n × (count ≡ min n 18446744073709551615))
    → MatchOption read ((n : ℕ) → SaysCount name line n → ⊥) (λ count. (n : ℕ) × SaysCount name line n × (count ≡ min n 18446744073709551615))
count_cases name line behind digits None named spaced none = λ n says.
    let same : 32 ∷ says.digits ≡ 32 ∷ digits = cancel name (32 ∷ says.digits) (32 ∷ digits) (sym says.text ∙ named ∙ ap (λ xs. name ++ xs) spaced) in
    none n (subst (λ ds. IsCount ds n) (ap (drop 1) same) says.count)
count_cases name line behind digits (Some count) named spaced some =
    (some.0, record { digits = digits; count = some.1; text = named ∙ ap (λ xs. name ++ xs) spaced }, some.2)

pub not_named : (name line : List ℕ) → ((rest : List ℕ) → line ≢ name ++ rest) → (n : ℕ) → SaysCount name line n → ⊥
not_named name line other n says = other (32 ∷ says.digits) says.text

pub not_spaced : (name line behind : List ℕ) → line ≡ name ++ behind → ((rest : List ℕ) → behind ≢ 32 ∷ rest) → (n : ℕ) → SaysCount name line n → ⊥
not_spaced name line behind named other n says = other says.digits (sym (cancel name (32 ∷ says.digits) behind (sym says.text ∙ named)))

-- ---- a section

pub lines_few : (xs : List ℕ) → length (lines_of xs) ≤ length xs
lines_few [] = omega arith
lines_few (b ∷ bs) = elim (eqb_tells b 10) [
  | inl p ↦ rw p.0 (omega (arith, lines_few bs))
  | inr p ↦ rw p.0 (onto b (lines_of bs) (length bs) (lines_few bs))
]
  where
    onto : (b : ℕ) (lines : List Line) (n : ℕ) → length lines ≤ n → length (onto_first b lines) ≤ suc n
    onto b [] n low = omega arith
    onto b (l ∷ lines) n low = omega (arith, low)

next : (k : ℕ) → k + 1 ≡ suc k
next k = omega arith

first_long_front : (line : Line) (own : List Line) (long : Option ℕ) → FirstLong own long
    → FirstLong (line ∷ own) (if nat_lt MOST_LINE (length line) then Some 0 else option_map (λ place. place + 1) long)
first_long_front line own long first = elim (cases_lt MOST_LINE (length line)) [
  | inl high ↦ rw (yes (length line) high) (record { line = line; stands = refl; long = high }, λ other long. omega arith)
  | inr low ↦ rw (fits (length line) low) (behind long first low)
]
  where
    yes : (n : ℕ) → MOST_LINE < n → nat_lt MOST_LINE n ≡ true
    yes n h = grind (arith, nat_tests)

    fits : (n : ℕ) → n ≤ MOST_LINE → nat_lt MOST_LINE n ≡ false
    fits n h = grind (arith, nat_tests)

    no_head : length line ≤ MOST_LINE → IsLong (line ∷ own) 0 → ⊥
    no_head low long = omega (arith, low, head_long line own long)

    behind : (long : Option ℕ) → FirstLong own long → length line ≤ MOST_LINE → FirstLong (line ∷ own) (option_map (λ place. place + 1) long)
    behind None first low = go
      where
        go : (place : ℕ) → IsLong (line ∷ own) place → ⊥
        go zero long = no_head low long
        go (suc k) long = first k (long_tail line own k long)
    behind (Some p) first low = (subst (IsLong (line ∷ own)) (sym (next p)) (long_behind line own p first.0), go)
      where
        go : (other : ℕ) → IsLong (line ∷ own) other → p + 1 ≤ other
        go zero long = absurd (no_head low long)
        go (suc k) long = omega (arith, first.1 k (long_tail line own k long))

pub no_section : (name line : Line) (lines others : List Line) → lines ≡ line ∷ others → ((n : ℕ) → SaysCount name line n → ⊥) → NoSection name lines
no_section name line lines others is none = λ l others' n says e. none n (subst (λ x. SaysCount name x n) (head_is l line others' others (sym e ∙ is)) says)
  where
    head_is : (a b : Line) (xs ys : List Line) → a ∷ xs ≡ b ∷ ys → a ≡ b
    head_is a b xs ys e = cc

pub nothing_there : (name : Line) (text : List ℕ) → text ≡ [] → NoSection name (lines_of text)
nothing_there name text empty = λ l others n says e. none l others (subst (λ t. lines_of t ≡ l ∷ others) empty e)
  where
    none : (l : Line) (others : List Line) → [] ≡ l ∷ others → ⊥
    none l others e = cc

pub long_room : (own : List Line) (long : Option ℕ) (most : ℕ) → FirstLong own long → length own ≤ most → most ≤ 18446744073709551615 → IfSome long (λ place. place < 18446744073709551615)
long_room own None most first within low = tt
long_room own (Some place) most first within low = omega (arith, long_within own place first.0, within, low)

pub reads_section : (name line behind : List ℕ) (lines : List Line) (n count : ℕ) (taken : TakenLines) (s : Section) → lines ≡ line ∷ lines_of behind → SaysCount name line n
    → count ≡ min n 18446744073709551615 → TakesLines behind count taken → length behind < 9223372036854775808 → s.text.items ≡ taken.text.items → s.rest.now ≡ taken.rest.now
    → s.count ≡ taken.count → s.whole ≡ (taken.count == count) → s.long ≡ (if nat_lt MOST_LINE (length line) then Some 0 else option_map (λ place. place + 1) taken.long)
    → ReadsSection name lines s
reads_section name line behind lines n count taken s is says counts takes short text rest counted whole long =
    let few : length takes.own < 9223372036854775808 = omega (arith, lines_few behind, short, ap length takes.lines, length-append takes.own (lines_of taken.rest.now)) in
    record {
      line = line;
      own = takes.own;
      n = n;
      says = says;
      text = is ∙ ap (λ ls. line ∷ ls) (takes.lines ∙ ap (λ r. takes.own ++ lines_of r) (sym rest));
      copied = text ∙ takes.copied;
      counted = counted ∙ takes.counted;
      whole = λ w. omega (arith, takes.counted, counts, few, same taken.count count (sym whole ∙ w));
      lacks = λ w.
          let other : taken.count ≢ count = differ taken.count count (sym whole ∙ w) in
          let low : length takes.own < count = less (length takes.own) count taken.count takes.within takes.counted other in
          (omega (arith, low, counts), rest ∙ takes.ended low);
      long = subst (FirstLong (line ∷ takes.own)) (sym long) (first_long_front line takes.own taken.long takes.long);
    }
  where
    same : (a b : ℕ) → (a == b) ≡ true → a ≡ b
    same a b e = grind (arith, nat_tests)

    differ : (a b : ℕ) → (a == b) ≡ false → a ≢ b
    differ a b e = λ p. elim (eqb_tells a b) [ inl q ↦ clash (a == b) q.0 e | inr q ↦ q.1 p ]
      where
        clash : (x : Bool) → x ≡ true → x ≡ false → ⊥
        clash true e f = cc
        clash false e f = cc

    less : (a b c : ℕ) → a ≤ b → c ≡ a → c ≢ b → a < b
    less a b c low is other = elim (cases_lt a b) [ inl h ↦ h | inr h ↦ absurd (other (omega (arith, low, is, h))) ]
