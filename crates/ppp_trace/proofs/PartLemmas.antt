-- The parts of a full trace.
use Rattle.std.proofs.Common.{◌≡◌, ℕ, zero, suc, ◌+◌, ◌<◌, ◌≤◌, ◌^◌, min, List, [], ◌∷◌, ◌++◌, length, Some, refl, ap, sym, subst, ◌∙◌, arith, inl, inr, length-append, append-nil, append_assoc, slice_get}
use Rattle.std.proofs.lemmas.Bool.{cases_lt}
use Rattle.std.proofs.lemmas.Option.{same_Some}
use Rattle.ppp_mark.specs.Lines.{lines_of}
use Rattle.ppp_trace.specs.FirstFault.{NotBehind, rank}
use Rattle.ppp_trace.specs.FullFault.{IsFirst, IsWrongStep}
use Rattle.ppp_trace.specs.FullSteps.{IsNoFullStep, SpellsStep}
use Rattle.ppp_trace.specs.FullTrace.{Line}
use Rattle.ppp_trace.specs.Parts.{AreSteps, Tells}
use Rattle.ppp_trace.specs.declared.TheConstants.{MOST_FULL_STEPS, MOST_OCTETS}
use Rattle.ppp_trace.specs.declared.fault.BadTrace.{BadTrace}
use Rattle.ppp_trace.specs.declared.fault.FaultKind.TheVariants as kind
use Rattle.ppp_trace.specs.declared.fault.TraceFault.{TraceFault}
use Rattle.ppp_trace.specs.declared.fault.TraceFault.TheVariants as fault
use Rattle.ppp_trace.specs.declared.world_step.WorldStep.{WorldStep}

-- ---- steps

-- the lines up to a place are steps
pub record StepsSoFar (links : ℕ) (text rest : List ℕ) (count : ℕ) : Type 0 where
  pub own : List Line
  pub lines : lines_of text ≡ own ++ lines_of rest
  pub counted : count ≡ length own
  pub steps : AreSteps links own

pub no_steps : (links : ℕ) (text : List ℕ) → StepsSoFar links text text 0
no_steps links text = record { own = []; lines = refl; counted = refl; steps = record { few = omega arith; each = λ place line stands. absurd (nowhere place line stands) } }
  where
    nowhere : (place : ℕ) (line : Line) → slice_get [] place ≡ Some line → ⊥
    nowhere place line e = cc

-- a line before a place, at it, or behind it
before_at : (own more : List Line) (place : ℕ) (line : Line) → slice_get (own ++ more) place ≡ Some line → place < length own → slice_get own place ≡ Some line
before_at [] more place line stands within = absurd (omega (arith, within))
before_at (l ∷ own) more zero line stands within = stands
before_at (l ∷ own) more (suc place) line stands within = before_at own more place line stands (omega (arith, within))

there_at : (own more : List Line) (line : Line) → slice_get (own ++ line ∷ more) (length own) ≡ Some line
there_at [] more line = refl
there_at (l ∷ own) more line = there_at own more line

each_more : (links : ℕ) (own : List Line) (line : Line) (s : WorldStep) → AreSteps links own → SpellsStep links s line
    → (place : ℕ) (l : Line) → slice_get (own ++ line ∷ []) place ≡ Some l → (t : WorldStep) × SpellsStep links t l
each_more links own line s are spells place l stands = elim (cases_lt place (length own)) [
  | inl before ↦ are.each place l (before_at own (line ∷ []) place l stands before)
  | inr behind ↦ elim (cases_lt (length own) place) [
    | inl past ↦ absurd (nowhere own line place l stands past)
    | inr not_past ↦
        let here : place ≡ length own = omega (arith, behind, not_past) in
        let same : line ≡ l = same_Some line l (sym (there_at own [] line) ∙ ap (slice_get (own ++ line ∷ [])) (sym here) ∙ stands) in
        (s, subst (SpellsStep links s) same spells)
  ]
]
  where
    nowhere : (own : List Line) (line : Line) (place : ℕ) (l : Line) → slice_get (own ++ line ∷ []) place ≡ Some l → length own < place → ⊥
    nowhere [] line zero l e past = omega (arith, past)
    nowhere [] line (suc place) l e past = cc
    nowhere (x ∷ own) line zero l e past = omega (arith, past)
    nowhere (x ∷ own) line (suc place) l e past = nowhere own line place l e (omega (arith, past))

pub steps_more : (links : ℕ) (text rest others : List ℕ) (line : Line) (count : ℕ) (s : WorldStep) → StepsSoFar links text rest count → lines_of rest ≡ line ∷ lines_of others
    → SpellsStep links s line → count < MOST_FULL_STEPS → StepsSoFar links text others (count + 1)
steps_more links text rest others line count s so_far lines spells few = record {
  own = so_far.own ++ line ∷ [];
  lines = so_far.lines ∙ ap (λ ls. so_far.own ++ ls) lines ∙ sym (append_assoc so_far.own (line ∷ []) (lines_of others));
  counted = ap (λ n. n + 1) so_far.counted ∙ sym (length-append so_far.own (line ∷ []));
  steps = record {
    few = omega (arith, few, so_far.counted, length-append so_far.own (line ∷ []));
    each = each_more links so_far.own line s so_far.steps spells;
  };
}

pub steps_all : (links : ℕ) (text rest : List ℕ) (count : ℕ) → StepsSoFar links text rest count → rest ≡ [] → AreSteps links (lines_of text)
steps_all links text rest count so_far ended =
    let all : lines_of text ≡ so_far.own = so_far.lines ∙ ap (λ r. so_far.own ++ lines_of r) ended ∙ append-nil so_far.own in
    subst (AreSteps links) (sym all) so_far.steps

-- The line behind those steps is none, or one too many.
step_first : (links n : ℕ) (own more : List Line) (line : Line) (bad : BadTrace) → AreSteps links own → bad.line ≡ n + 1 + length own → IsWrongStep links n (own ++ line ∷ more) bad
    → ((other : BadTrace) → other.line ≡ bad.line → IsWrongStep links n (own ++ line ∷ more) other → rank bad.kind ≤ rank other.kind) → IsFirst (IsWrongStep links n (own ++ line ∷ more)) bad
step_first links n own more line bad are at wrong lowest = record { is_fault = wrong; first = go }
  where
    placed : (other : BadTrace) (place : ℕ) (l : Line) → other.line ≡ n + 1 + place → slice_get (own ++ line ∷ more) place ≡ Some l → (place < length own → ⊥)
        → IsWrongStep links n (own ++ line ∷ more) other → NotBehind bad other
    placed other place l is stands never w = elim (cases_lt (length own) place) [
      | inl past ↦ inl (omega (arith, at, is, past))
      | inr not_past ↦ elim (cases_lt place (length own)) [
        | inl before ↦ absurd (never before)
        | inr behind ↦ let same : other.line ≡ bad.line = omega (arith, at, is, not_past, behind) in inr (sym same, lowest other same w)
      ]
    ]

    go : (other : BadTrace) → IsWrongStep links n (own ++ line ∷ more) other → NotBehind bad other
    go other (inl s) =
        placed other s.0 s.1 s.4.1 s.2 (λ before. let e = are.each s.0 s.1 (before_at own (line ∷ more) s.0 s.1 s.2 before) in s.3 e.0 e.1) (inl s)
    go other (inr m) = placed other m.0 m.1 m.4.1 m.3 (λ before. omega (arith, before, are.few, m.2)) (inr m)

pub wrong_step : (links n : ℕ) (text rest others : List ℕ) (line : Line) (count at : ℕ) (told : TraceFault) → n + length (lines_of text) ≤ MOST_OCTETS → StepsSoFar links text rest count
    → lines_of rest ≡ line ∷ lines_of others → IsNoFullStep links line → at ≡ min (min (n + 1) 18446744073709551615 + count) 18446744073709551615
    → (at < 2 ^ 32 → told ≡ fault.Bad (record { line = at; kind = kind.Step })) → Tells (IsWrongStep links n (lines_of text)) told
wrong_step links n text rest others line count at told small so_far lines no_step at_is tells =
    let all : lines_of text ≡ so_far.own ++ line ∷ lines_of others = so_far.lines ∙ ap (λ ls. so_far.own ++ ls) lines in
    let size : length (lines_of text) ≡ length so_far.own + suc (length (lines_of others)) = ap length all ∙ length-append so_far.own (line ∷ lines_of others) in
    let here : at ≡ n + 1 + length so_far.own = omega (arith, at_is, small, size, so_far.counted) in
    subst (Tells (IsWrongStep links n (lines_of text))) (sym (tells (omega (arith, here, small, size))))
    (subst (λ ls. IsFirst (IsWrongStep links n ls) (record { line = at; kind = kind.Step })) (sym all)
    (step_first links n so_far.own (lines_of others) line (record { line = at; kind = kind.Step }) so_far.steps here
    (inl (length so_far.own, line, there_at so_far.own (lines_of others) line, no_step, (refl, here))) low))
  where
    low : (other : BadTrace) → other.line ≡ at → IsWrongStep links n (so_far.own ++ line ∷ lines_of others) other → 3 ≤ rank other.kind
    low other same (inl s) = subst (λ k. 3 ≤ rank k) (sym s.4.0) (omega arith)
    low other same (inr m) = subst (λ k. 3 ≤ rank k) (sym m.4.0) (omega arith)

pub one_too_many : (links n : ℕ) (text rest others : List ℕ) (line : Line) (count at : ℕ) (s : WorldStep) (told : TraceFault) → n + length (lines_of text) ≤ MOST_OCTETS
    → StepsSoFar links text rest count → lines_of rest ≡ line ∷ lines_of others → SpellsStep links s line → MOST_FULL_STEPS ≤ count
    → at ≡ min (min (n + 1) 18446744073709551615 + count) 18446744073709551615
    → (at < 2 ^ 32 → told ≡ fault.Bad (record { line = at; kind = kind.Steps })) → Tells (IsWrongStep links n (lines_of text)) told
one_too_many links n text rest others line count at s told small so_far lines spells many at_is tells =
    let all : lines_of text ≡ so_far.own ++ line ∷ lines_of others = so_far.lines ∙ ap (λ ls. so_far.own ++ ls) lines in
    let size : length (lines_of text) ≡ length so_far.own + suc (length (lines_of others)) = ap length all ∙ length-append so_far.own (line ∷ lines_of others) in
    let here : at ≡ n + 1 + length so_far.own = omega (arith, at_is, small, size, so_far.counted) in
    subst (Tells (IsWrongStep links n (lines_of text))) (sym (tells (omega (arith, here, small, size))))
    (subst (λ ls. IsFirst (IsWrongStep links n ls) (record { line = at; kind = kind.Steps })) (sym all)
    (step_first links n so_far.own (lines_of others) line (record { line = at; kind = kind.Steps }) so_far.steps here
    (inr (length so_far.own, line, omega (arith, many, so_far.counted), there_at so_far.own (lines_of others) line, (refl, here))) (low here)))
  where
    low : at ≡ n + 1 + length so_far.own → (other : BadTrace) → other.line ≡ at → IsWrongStep links n (so_far.own ++ line ∷ lines_of others) other → 5 ≤ rank other.kind
    low here other same (inl x) =
        let place : x.0 ≡ length so_far.own = omega (arith, here, same, x.4.1) in
        let is : line ≡ x.1 = same_Some line x.1 (sym (there_at so_far.own (lines_of others) line) ∙ ap (slice_get (so_far.own ++ line ∷ lines_of others)) (sym place) ∙ x.2) in
        absurd (x.3 s (subst (SpellsStep links s) is spells))
    low here other same (inr m) = subst (λ k. 5 ≤ rank k) (sym m.4.0) (omega arith)
