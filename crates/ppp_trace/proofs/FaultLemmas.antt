-- The first fault of octets that are no full trace.
use Rattle.std.proofs.Common.{◌≡◌, ◌^◌, min, false, ℕ, zero, suc, ◌+◌, ◌<◌, ◌≤◌, ◌⊎◌, List, [], ◌∷◌, ◌++◌, length, drop, None, Some, refl, ap, sym, subst, ◌∙◌, arith, inl, inr, length-append, append-nil}
use Rattle.std.proofs.Math.Seq.{drop-append_seam}
use Rattle.ppp_base.specs.Numbers.{value_behind}
use Rattle.ppp_trace.specs.FirstFault.{NotBehind, rank}
use Rattle.ppp_trace.specs.FullFault.{HasLines, InSection, IsAt, IsFirst, MissesSection}
use Rattle.ppp_trace.specs.FullTrace.{FirstLong, IsLong, IsSection, Line, SaysCount}
use Rattle.ppp_mark.specs.Lines.{lines_of}
use Rattle.ppp_trace.specs.Sections.{ReadsSection, StartFault, TellsStart, There}
use Rattle.ppp_trace.specs.declared.TheConstants.{MOST_OCTETS}
use Rattle.ppp_trace.specs.declared.sections.Section.{Section}
use Rattle.ppp_trace.specs.declared.fault.TraceFault.{TraceFault}
use Rattle.ppp_trace.specs.declared.fault.TraceFault.TheVariants as fault
use Rattle.ppp_trace.specs.declared.fault.BadTrace.{BadTrace}
use Rattle.ppp_trace.specs.declared.fault.FaultKind.{FaultKind}
use Rattle.ppp_trace.specs.declared.fault.FaultKind.TheVariants as kind
use Rattle.ppp_trace.proofs.SectionLemmas.{long_within}

-- ---- one reading

head_is : (a b : Line) (xs ys : List Line) → a ∷ xs ≡ b ∷ ys → a ≡ b
head_is a b xs ys e = cc

cancel : (xs ys zs : List ℕ) → xs ++ ys ≡ xs ++ zs → ys ≡ zs
cancel xs ys zs e = sym (drop-append_seam xs ys) ∙ ap (drop (length xs)) e ∙ drop-append_seam xs zs

one_count : (name line other : Line) (n m : ℕ) → SaysCount name line n → SaysCount name other m → line ≡ other → n ≡ m
one_count name line other n m a b same =
    let digits : 32 ∷ a.digits ≡ 32 ∷ b.digits = cancel name (32 ∷ a.digits) (32 ∷ b.digits) (sym a.text ∙ same ∙ b.text) in
    sym a.count.value ∙ ap (λ ds. value_behind 0 ds) (ap (drop 1) digits) ∙ b.count.value

split_same : (xs xs' ys ys' : List Line) → length xs ≡ length xs' → xs ++ ys ≡ xs' ++ ys' → (xs ≡ xs') × (ys ≡ ys')
split_same [] [] ys ys' size e = (refl, e)
split_same [] (x ∷ xs') ys ys' size e = absurd (omega (arith, size))
split_same (x ∷ xs) [] ys ys' size e = absurd (omega (arith, size))
split_same (x ∷ xs) (x' ∷ xs') ys ys' size e =
    let others = split_same xs xs' ys ys' (omega (arith, size)) (ap (drop 1) e) in
    (ap (λ h. h ∷ xs) (head_is x x' (xs ++ ys) (xs' ++ ys') e) ∙ ap (λ l. x' ∷ l) others.0, others.1)

pub section_of : (name : Line) (lines : List Line) (line : Line) (own others : List Line) → There name lines line own others → IsSection name lines own others
section_of name lines line own others t = record { line = line; says = t.says; text = t.text }

lines_same : (name : Line) (lines : List Line) (line line' : Line) (own own' others others' : List Line) → There name lines line own others → HasLines name lines line' own' others'
    → (line ≡ line') × (own ≡ own') × (others ≡ others')
lines_same name lines line line' own own' others others' t h =
    let heads : line ≡ line' = head_is line line' (own ++ others) (own' ++ others') (sym t.text ∙ h.text) in
    let count : length own ≡ h.n = one_count name line line' (length own) h.n t.says h.says heads in
    let rest : own ++ others ≡ own' ++ others' = ap (drop 1) (sym t.text ∙ h.text) in
    elim h.all [
      | inl whole ↦ let parts = split_same own own' others others' (count ∙ sym whole) rest in (heads, parts.0, parts.1)
      | inr lacks ↦ absurd (omega (arith, count, lacks.0, ap length rest, length-append own others, length-append own' others', ap length lacks.1))
    ]

section_same : (name : Line) (lines : List Line) (line : Line) (own own' others others' : List Line) → There name lines line own others → IsSection name lines own' others'
    → (own ≡ own') × (others ≡ others')
section_same name lines line own own' others others' t s =
    let same = lines_same name lines line s.line own own' others others' t (record { n = length own'; says = s.says; text = s.text; all = inl refl }) in
    (same.1, same.2)

never_missing : (name : Line) (n : ℕ) (lines : List Line) (line : Line) (own others : List Line) (bad : BadTrace) → There name lines line own others → MissesSection name n lines bad → ⊥
never_missing name n lines line own others bad t (inl missing) = missing.0 line (own ++ others) (length own) t.says t.text
never_missing name n lines line own others bad t (inr lacks) =
    let has : HasLines name lines lacks.0 lacks.1 [] = record { n = lacks.2; says = lacks.3; text = lacks.5 ∙ ap (λ l. lacks.0 ∷ l) (sym (append-nil lacks.1)); all = inr (lacks.4, refl) } in
    let same = lines_same name lines line lacks.0 own lacks.1 others [] t has in
    let count = one_count name line lacks.0 (length own) lacks.2 t.says lacks.3 same.0 in
    omega (arith, count, lacks.4, ap length same.1)

-- ---- what stands behind

-- Whatever is wrong there is told of a later line.
abbrev pub Later : (List Line → ℕ → List Line → BadTrace → Type 0) → Type 0
Later Next = (own : List Line) (n : ℕ) (lines : List Line) (bad : BadTrace) → Next own n lines bad → n < bad.line

pub later_in : (name : Line) (k : FaultKind) (Wrong : List Line → Type 0) (Next : List Line → ℕ → List Line → BadTrace → Type 0) → Later Next
    → (n : ℕ) (lines : List Line) (bad : BadTrace) → InSection name k Wrong Next n lines bad → n < bad.line
later_in name k Wrong Next later n lines bad (inl (inl missing)) = omega (arith, missing.1.1)
later_in name k Wrong Next later n lines bad (inl (inr lacks)) = omega (arith, lacks.6.1)
later_in name k Wrong Next later n lines bad (inr (inl long)) = omega (arith, long.6.1)
later_in name k Wrong Next later n lines bad (inr (inr (inl wrong))) = omega (arith, wrong.4.1)
later_in name k Wrong Next later n lines bad (inr (inr (inr behind))) = omega (arith, later behind.0 (n + 1 + length behind.0) behind.1 bad behind.3)

-- ---- a section that is there

-- Its own lines are wrong, and its line isn't too long.
pub wrong_first : (name : Line) (k : FaultKind) (Wrong : List Line → Type 0) (Next : List Line → ℕ → List Line → BadTrace → Type 0) → Later Next
    → (n : ℕ) (lines : List Line) (line : Line) (own others : List Line) (bad : BadTrace) → There name lines line own others → Wrong own → IsAt bad k (n + 1)
    → (IsLong (line ∷ own) 0 → ⊥) → IsFirst (InSection name k Wrong Next n lines) bad
wrong_first name k Wrong Next later n lines line own others bad t wrong at short = record {
  is_fault = inr (inr (inl (own, others, section_of name lines line own others t, wrong, at)));
  first = go;
}
  where
    place_zero : (line' : Line) (own' : List Line) (place : ℕ) → line ≡ line' → own ≡ own' → IsLong (line' ∷ own') place → 0 < place
    place_zero line' own' zero l o long = absurd (short (subst (λ h. IsLong (h ∷ own) 0) (sym l) (subst (λ os. IsLong (line' ∷ os) 0) (sym o) long)))
    place_zero line' own' (suc place) l o long = omega arith

    go : (other : BadTrace) → InSection name k Wrong Next n lines other → NotBehind bad other
    go other (inl missing) = absurd (never_missing name n lines line own others other t missing)
    go other (inr (inl long)) =
        let same = lines_same name lines line long.0 own long.1 others long.2 t long.3 in
        inl (omega (arith, at.1, long.6.1, place_zero long.0 long.1 long.4 same.0 same.1 long.5))
    go other (inr (inr (inl w))) = inr (at.1 ∙ sym w.4.1, same_rank bad other (at.0 ∙ sym w.4.0))
      where
        same_rank : (a b : BadTrace) → a.kind ≡ b.kind → rank a.kind ≤ rank b.kind
        same_rank a b e = subst (λ x. rank a.kind ≤ rank x) e (omega arith)
    go other (inr (inr (inr b))) = inl (omega (arith, at.1, later b.0 (n + 1 + length b.0) b.1 other b.3))

-- Its own lines are right, but a line is too long.
pub long_first : (name : Line) (k : FaultKind) (Wrong : List Line → Type 0) (Next : List Line → ℕ → List Line → BadTrace → Type 0) → Later Next
    → (n : ℕ) (lines : List Line) (line : Line) (own others : List Line) (place : ℕ) (bad : BadTrace) → There name lines line own others → ((Wrong own) → ⊥) ⊎ ((place ≡ 0) × (4 ≤ rank k))
    → FirstLong (line ∷ own) (Some place) → IsAt bad kind.Long (n + 1 + place) → IsFirst (InSection name k Wrong Next n lines) bad
long_first name k Wrong Next later n lines line own others place bad t right long at = record {
  is_fault = inr (inl (line, own, others, record { n = length own; says = t.says; text = t.text; all = inl refl }, place, long.0, at));
  first = go;
}
  where
    ordered : (other : BadTrace) (p : ℕ) → place ≤ p → IsAt other kind.Long (n + 1 + p) → NotBehind bad other
    ordered other p low is = elim (split place p low) [
      | inl less ↦ inl (omega (arith, at.1, is.1, less))
      | inr same ↦ inr (omega (arith, at.1, is.1, same), subst (λ x. rank x ≤ rank other.kind) (sym at.0) (subst (λ y. 4 ≤ rank y) (sym is.0) (omega arith)))
    ]
      where
        split : (a b : ℕ) → a ≤ b → (a < b) ⊎ (a ≡ b)
        split a b h = grind arith

    go : (other : BadTrace) → InSection name k Wrong Next n lines other → NotBehind bad other
    go other (inl missing) = absurd (never_missing name n lines line own others other t missing)
    go other (inr (inl o)) =
        let same = lines_same name lines line o.0 own o.1 others o.2 t o.3 in
        ordered other o.4 (long.1 o.4 (subst (λ h. IsLong (h ∷ own) o.4) (sym same.0) (subst (λ os. IsLong (o.0 ∷ os) o.4) (sym same.1) o.5))) o.6
    go other (inr (inr (inl w))) =
        let same = section_same name lines line own w.0 others w.1 t w.2 in
        elim right [
          | inl never ↦ absurd (never (subst Wrong (sym same.0) w.3))
          | inr line_is ↦ inr (omega (arith, at.1, w.4.1, line_is.0), subst (λ x. rank x ≤ rank other.kind) (sym at.0) (subst (λ y. 4 ≤ rank y) (sym w.4.0) line_is.1))
        ]
    go other (inr (inr (inr b))) =
        let same = section_same name lines line own b.0 others b.1 t b.2 in
        inl (omega (arith, at.1, later b.0 (n + 1 + length b.0) b.1 other b.3, long_within (line ∷ own) place long.0, ap length same.0))

-- The section is right; the first fault behind it is the first.
pub behind_first : (name : Line) (k : FaultKind) (Wrong : List Line → Type 0) (Next : List Line → ℕ → List Line → BadTrace → Type 0)
    → (n : ℕ) (lines : List Line) (line : Line) (own others : List Line) (bad : BadTrace) → There name lines line own others → ((Wrong own) → ⊥) → FirstLong (line ∷ own) None
    → IsFirst (Next own (n + 1 + length own) others) bad → IsFirst (InSection name k Wrong Next n lines) bad
behind_first name k Wrong Next n lines line own others bad t right short found = record {
  is_fault = inr (inr (inr (own, others, section_of name lines line own others t, found.is_fault)));
  first = go;
}
  where
    go : (other : BadTrace) → InSection name k Wrong Next n lines other → NotBehind bad other
    go other (inl missing) = absurd (never_missing name n lines line own others other t missing)
    go other (inr (inl o)) =
        let same = lines_same name lines line o.0 own o.1 others o.2 t o.3 in
        absurd (short o.4 (subst (λ h. IsLong (h ∷ own) o.4) (sym same.0) (subst (λ os. IsLong (o.0 ∷ os) o.4) (sym same.1) o.5)))
    go other (inr (inr (inl w))) = absurd (right (subst Wrong (sym (section_same name lines line own w.0 others w.1 t w.2).0) w.3))
    go other (inr (inr (inr b))) =
        let same = section_same name lines line own b.0 others b.1 t b.2 in
        found.first other (subst (λ os. Next own (n + 1 + length own) os other) (sym same.1) (subst (λ os. Next os (n + 1 + length os) b.1 other) (sym same.0) b.3))

-- A section that lacks lines is no whole one, and has these lines alone.
never_whole : (name : Line) (lines : List Line) (line : Line) (own own' others' : List Line) (count : ℕ) → SaysCount name line count → length own < count → lines ≡ line ∷ own
    → IsSection name lines own' others' → ⊥
never_whole name lines line own own' others' count says few text s =
    let heads : line ≡ s.line = head_is line s.line own (own' ++ others') (sym text ∙ s.text) in
    let same : count ≡ length own' = one_count name line s.line count (length own') says s.says heads in
    let size = ap length (ap (drop 1) (sym text ∙ s.text)) in
    omega (arith, same, few, size, length-append own' others')

has_same : (name : Line) (lines : List Line) (line line' : Line) (own own' others others' : List Line) → HasLines name lines line own others → HasLines name lines line' own' others'
    → (line ≡ line') × (own ≡ own') × (others ≡ others')
has_same name lines line line' own own' others others' a b =
    let heads : line ≡ line' = head_is line line' (own ++ others) (own' ++ others') (sym a.text ∙ b.text) in
    let count : a.n ≡ b.n = one_count name line line' a.n b.n a.says b.says heads in
    let rest : own ++ others ≡ own' ++ others' = ap (drop 1) (sym a.text ∙ b.text) in
    let parts = split_same own own' others others' (size a.n b.n own own' others others' count a.all b.all (ap length rest)) rest in
    (heads, parts.0, parts.1)
  where
    size : (n m : ℕ) (own own' others others' : List Line) → n ≡ m → (length own ≡ n) ⊎ ((length own < n) × (others ≡ [])) → (length own' ≡ m) ⊎ ((length own' < m) × (others' ≡ []))
        → length (own ++ others) ≡ length (own' ++ others') → length own ≡ length own'
    size n m own own' others others' same (inl x) (inl y) e = omega (arith, same, x, y)
    size n m own own' others others' same (inl x) (inr y) e =
        absurd (omega (arith, same, x, y.0, e, length-append own others, length-append own' others', ap length y.1))
    size n m own own' others others' same (inr x) (inl y) e =
        absurd (omega (arith, same, x.0, y, e, length-append own others, length-append own' others', ap length x.1))
    size n m own own' others others' same (inr x) (inr y) e =
        omega (arith, e, length-append own others, length-append own' others', ap length x.1, ap length y.1)

-- The section isn't there whole, or its own line is too long.
pub start_first : (name : Line) (k : FaultKind) (Wrong : List Line → Type 0) (Next : List Line → ℕ → List Line → BadTrace → Type 0) → Later Next → 4 ≤ rank k
    → (n : ℕ) (lines : List Line) (bad : BadTrace) → StartFault name n lines bad → IsFirst (InSection name k Wrong Next n lines) bad
start_first name k Wrong Next later high n lines bad (inl none) = record {
  is_fault = inl (inl none);
  first = go;
}
  where
    go : (other : BadTrace) → InSection name k Wrong Next n lines other → NotBehind bad other
    go other (inl (inl m)) = inr (none.1.1 ∙ sym m.1.1, subst (λ x. rank x ≤ rank other.kind) (sym none.1.0) (subst (λ y. 2 ≤ rank y) (sym m.1.0) (omega arith)))
    go other (inl (inr l)) = absurd (none.0 l.0 l.1 l.2 l.3 l.5)
    go other (inr (inl o)) = absurd (none.0 o.0 (o.1 ++ o.2) o.3.n o.3.says o.3.text)
    go other (inr (inr (inl w))) = absurd (none.0 w.2.line (w.0 ++ w.1) (length w.0) w.2.says w.2.text)
    go other (inr (inr (inr b))) = absurd (none.0 b.2.line (b.0 ++ b.1) (length b.0) b.2.says b.2.text)
start_first name k Wrong Next later high n lines bad (inr (inl (line, own, count, says, few, text, inl at))) = record {
  is_fault = inl (inr (line, own, count, says, few, text, at.1));
  first = go;
}
  where
    has : HasLines name lines line own []
    has = record { n = count; says = says; text = text ∙ ap (λ l. line ∷ l) (sym (append-nil own)); all = inr (few, refl) }

    go : (other : BadTrace) → InSection name k Wrong Next n lines other → NotBehind bad other
    go other (inl (inl m)) = absurd (m.0 line own count says text)
    go other (inl (inr l)) =
        let same = ap length (ap (drop 1) (sym text ∙ l.5)) in
        inr (omega (arith, at.1.1, l.6.1, same), subst (λ x. rank x ≤ rank other.kind) (sym at.1.0) (subst (λ y. 2 ≤ rank y) (sym l.6.0) (omega arith)))
    go other (inr (inl o)) =
        let same = has_same name lines line o.0 own o.1 [] o.2 has o.3 in
        absurd (at.0 o.4 (subst (λ h. IsLong (h ∷ own) o.4) (sym same.0) (subst (λ os. IsLong (o.0 ∷ os) o.4) (sym same.1) o.5)))
    go other (inr (inr (inl w))) = absurd (never_whole name lines line own w.0 w.1 count says few text w.2)
    go other (inr (inr (inr b))) = absurd (never_whole name lines line own b.0 b.1 count says few text b.2)
start_first name k Wrong Next later high n lines bad (inr (inl (line, own, count, says, few, text, inr (place, long, at)))) = record {
  is_fault = inr (inl (line, own, [], has, place, long.0, at));
  first = go;
}
  where
    has : HasLines name lines line own []
    has = record { n = count; says = says; text = text ∙ ap (λ l. line ∷ l) (sym (append-nil own)); all = inr (few, refl) }

    ordered : (other : BadTrace) (p : ℕ) → place ≤ p → IsAt other kind.Long (n + 1 + p) → NotBehind bad other
    ordered other p low is = elim (split place p low) [
      | inl less ↦ inl (omega (arith, at.1, is.1, less))
      | inr same ↦ inr (omega (arith, at.1, is.1, same), subst (λ x. rank x ≤ rank other.kind) (sym at.0) (subst (λ y. 4 ≤ rank y) (sym is.0) (omega arith)))
    ]
      where
        split : (a b : ℕ) → a ≤ b → (a < b) ⊎ (a ≡ b)
        split a b h = grind arith

    go : (other : BadTrace) → InSection name k Wrong Next n lines other → NotBehind bad other
    go other (inl (inl m)) = absurd (m.0 line own count says text)
    go other (inl (inr l)) =
        let same = ap length (ap (drop 1) (sym text ∙ l.5)) in
        inl (omega (arith, at.1, l.6.1, same, long_within (line ∷ own) place long.0))
    go other (inr (inl o)) =
        let same = has_same name lines line o.0 own o.1 [] o.2 has o.3 in
        ordered other o.4 (long.1 o.4 (subst (λ h. IsLong (h ∷ own) o.4) (sym same.0) (subst (λ os. IsLong (o.0 ∷ os) o.4) (sym same.1) o.5))) o.6
    go other (inr (inr (inl w))) = absurd (never_whole name lines line own w.0 w.1 count says few text w.2)
    go other (inr (inr (inr b))) = absurd (never_whole name lines line own b.0 b.1 count says few text b.2)
start_first name k Wrong Next later high n lines bad (inr (inr there)) =
    long_first name k Wrong Next later n lines there.0 there.1 there.2 0 bad there.3 (inr (refl, high)) (there.4, λ other long. omega arith) (there.5.0, omega (arith, there.5.1))

-- ---- what is told

pub lacks_long : (name : Line) (n : ℕ) (lines : List Line) (s : Section) (place at : ℕ) (told : TraceFault) → n + length lines ≤ MOST_OCTETS → ReadsSection name lines s → s.whole ≡ false
    → s.long ≡ Some place → at ≡ min (min (n + 1) 18446744073709551615 + place) 18446744073709551615 → (at < 2 ^ 32 → told ≡ fault.Bad (record { line = at; kind = kind.Long }))
    → TellsStart name n lines told
lacks_long name n lines s place at told few r whole is at_is tells =
    let lacks = r.lacks whole in
    let text : lines ≡ r.line ∷ r.own = r.text ∙ ap (λ x. r.line ∷ (r.own ++ lines_of x)) lacks.1 ∙ ap (λ l. r.line ∷ l) (append-nil r.own) in
    let first : FirstLong (r.line ∷ r.own) (Some place) = subst (FirstLong (r.line ∷ r.own)) is r.long in
    let low = long_within (r.line ∷ r.own) place first.0 in
    let here : at ≡ n + 1 + place = omega (arith, at_is, few, ap length text, low) in
    subst (TellsStart name n lines) (sym (tells (omega (arith, here, few, ap length text, low))))
    (inr (inl (r.line, r.own, r.n, r.says, lacks.0, text, inr (place, first, (refl, here)))))

pub lacks_header : (name : Line) (n : ℕ) (lines : List Line) (s : Section) (at : ℕ) (told : TraceFault) → n + length lines ≤ MOST_OCTETS → ReadsSection name lines s → s.whole ≡ false
    → s.long ≡ None → at ≡ min (min (min (n + 1) 18446744073709551615 + s.count) 18446744073709551615 + 1) 18446744073709551615
    → (at < 2 ^ 32 → told ≡ fault.Bad (record { line = at; kind = kind.Header })) → TellsStart name n lines told
lacks_header name n lines s at told few r whole is at_is tells =
    let lacks = r.lacks whole in
    let text : lines ≡ r.line ∷ r.own = r.text ∙ ap (λ x. r.line ∷ (r.own ++ lines_of x)) lacks.1 ∙ ap (λ l. r.line ∷ l) (append-nil r.own) in
    let none : FirstLong (r.line ∷ r.own) None = subst (FirstLong (r.line ∷ r.own)) is r.long in
    let here : at ≡ n + length r.own + 2 = omega (arith, at_is, few, ap length text, r.counted) in
    subst (TellsStart name n lines) (sym (tells (omega (arith, here, few, ap length text))))
    (inr (inl (r.line, r.own, r.n, r.says, lacks.0, text, inl (none, (refl, here)))))
