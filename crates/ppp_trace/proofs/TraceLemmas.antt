-- A trace against its lines, and the first fault of octets that are none.
use Rattle.std.proofs.Common.{rules, add-one, ◌+◌, ◌≡◌, ◌≢◌, ℕ, ◌≤◌, ◌<◌, List, [], ◌∷◌, ◌++◌, length, map, Some, refl, ap, sym, subst, ◌∙◌, inl, inr, arith, append-nil, length-append, zero, suc, codes, flat_map, slice_get}
use Rattle.std.proofs.lemmas.Bool.{cases_lt}
use Rattle.std.proofs.lemmas.Option.{same_Some}
use Rattle.ppp_trace.specs.declared.fault.BadTrace.{BadTrace}
use Rattle.ppp_trace.specs.declared.fault.FaultKind.{FaultKind}
use Rattle.ppp_trace.specs.declared.fault.FaultKind.TheVariants as kind
use Rattle.ppp_trace.specs.declared.step.BareStep.{BareStep}
use Rattle.ppp_trace.specs.declared.TheConstants.{MOST_STEPS}
use Rattle.ppp_trace.specs.BareTrace.{AreSteps, IsBareTrace}
use Rattle.ppp_trace.specs.FirstFault.{FirstFault, IsWrong, rank}
use Rattle.ppp_mark.specs.Lines.{lines_of}
use Rattle.ppp_trace.specs.Steps.{IsNoStep, IsStep, Spells, word_of_step}
use Rattle.ppp_trace.proofs.StepLemmas.{Joins, joins_lines, step_is_short}

-- The lines are the header, these steps, and then others.
abbrev pub Begins : List (List ℕ) → List BareStep → List (List ℕ) → Type 0
Begins lines steps others = lines ≡ codes "bare" ∷ (map word_of_step steps ++ others)

step_at : (steps : List BareStep) (others : List (List ℕ)) (k : ℕ) (line : List ℕ) → k < length steps → AreSteps steps → slice_get (map word_of_step steps ++ others) k ≡ Some line → (s : BareStep) × Spells line s
step_at [] others k line within are stands = absurd (omega arith)
step_at (s ∷ ss) others zero line within are stands = (s, record { is_step = are.0; word = sym (same_Some (word_of_step s) line stands) })
step_at (s ∷ ss) others (suc k) line within are stands = step_at ss others k line (omega arith) are.1 stands

other_at : (steps : List BareStep) (others : List (List ℕ)) → slice_get (map word_of_step steps ++ others) (length steps) ≡ slice_get others 0
other_at [] others = refl
other_at (s ∷ ss) others = other_at ss others

spells_short : (line : List ℕ) (s : BareStep) → Spells line s → length line ≤ 30
spells_short line s spells = subst (λ l. length l ≤ 30) (sym spells.word) (step_is_short s spells.is_step)

-- Nothing is wrong with the header.
header_right : (number : ℕ) (line : List ℕ) (k : FaultKind) → number ≡ 1 → line ≡ codes "bare" → IsWrong k number line → ⊥
header_right number line kind.Size first header wrong = wrong
header_right number line kind.Empty first header wrong = wrong
header_right number line kind.Header first header wrong = wrong.1 header
header_right number line kind.Step first header wrong = omega (arith, wrong.0, first)
header_right number line kind.Long first header wrong =
    let short : length line ≡ 4 = ap length header in
    omega (arith, wrong, short)
header_right number line kind.Steps first header wrong = omega (arith, wrong, first)
header_right number line kind.Options first header wrong = wrong
header_right number line kind.Secrets first header wrong = wrong

-- Nothing is wrong with a step that isn't past the limit.
step_right : (number : ℕ) (line : List ℕ) (s : BareStep) (k : FaultKind) → 1 < number → number ≤ MOST_STEPS + 1 → Spells line s → IsWrong k number line → ⊥
step_right number line s kind.Size low high spells wrong = wrong
step_right number line s kind.Empty low high spells wrong = wrong
step_right number line s kind.Header low high spells wrong = omega (arith, wrong.0, low)
step_right number line s kind.Step low high spells wrong = wrong.1 s spells
step_right number line s kind.Long low high spells wrong = omega (arith, wrong, spells_short line s spells)
step_right number line s kind.Steps low high spells wrong = omega (arith, wrong, high)
step_right number line s kind.Options low high spells wrong = wrong
step_right number line s kind.Secrets low high spells wrong = wrong

-- Nothing is wrong with the header and with the steps behind it.
pub right_before : (steps : List BareStep) (others : List (List ℕ)) (place : ℕ) (line : List ℕ) (k : FaultKind) → length steps ≤ MOST_STEPS → AreSteps steps → place ≤ length steps → slice_get (codes "bare" ∷ (map word_of_step steps ++ others)) place ≡ Some line → IsWrong k (place + 1) line → ⊥
right_before steps others zero line k few are within stands wrong = header_right 1 line k refl (sym (same_Some (codes "bare") line stands)) wrong
right_before steps others (suc place) line k few are within stands wrong =
    let at = step_at steps others place line (omega arith) are stands in
    step_right (suc place + 1) line at.0 k (omega arith) (omega (arith, few, within)) at.1 wrong

pub some_lines : (octets line : List ℕ) (others : List (List ℕ)) → lines_of octets ≡ line ∷ others → octets ≡ [] → ⊥
some_lines octets line others lines empty = let none : [] ≡ line ∷ others = subst (λ o. lines_of o ≡ line ∷ others) empty lines in cc

-- A fault of the line behind the header and these steps, the lowest one of that line, is the first fault.
pub fault_behind : (octets : List ℕ) (steps : List BareStep) (line : List ℕ) (others : List (List ℕ)) (bad : BadTrace)
    → Begins (lines_of octets) steps (line ∷ others) → length steps ≤ MOST_STEPS → AreSteps steps → bad.line ≡ length steps + 2
    → IsWrong bad.kind bad.line line → ((k : FaultKind) → IsWrong k bad.line line → rank bad.kind ≤ rank k) → FirstFault octets bad
fault_behind octets steps line others bad begins few are number wrong lowest =
    let here : slice_get (lines_of octets) (length steps + 1) ≡ Some line = rw (begins, add-one) (other_at steps (line ∷ others)) in
    record {
      is_fault = inr (record { place = length steps + 1; number = omega (arith, number); line = line; stands = here; wrong = wrong });
      first = λ other fault. elim fault [
        | inl nothing ↦ absurd (some_lines octets (codes "bare") (map word_of_step steps ++ line ∷ others) begins nothing.nothing)
        | inr at ↦ elim (cases_lt (length steps) at.place) [
          | inl past ↦ elim (cases_lt (length steps + 1) at.place) [
            | inl behind ↦ inl (omega (arith, number, behind, at.number))
            | inr not_behind ↦
                let place : at.place ≡ length steps + 1 = omega (arith, past, not_behind) in
                let same_line : line ≡ at.line = same_Some line at.line (sym here ∙ ap (slice_get (lines_of octets)) (sym place) ∙ at.stands) in
                let same_number : bad.line ≡ other.line = omega (arith, number, place, at.number) in
                inr (same_number, lowest other.kind (subst (λ n. IsWrong other.kind n line) (sym same_number) (subst (λ l. IsWrong other.kind other.line l) (sym same_line) at.wrong)))
          ]
          | inr before ↦ absurd (right_before steps (line ∷ others) at.place at.line other.kind few are before (subst (λ ls. slice_get ls at.place ≡ Some at.line) begins at.stands) (subst (λ n. IsWrong other.kind n at.line) at.number at.wrong))
        ]
      ];
    }

no_step_lowest : (number : ℕ) (line : List ℕ) (k : FaultKind) → 1 < number → IsWrong k number line → rank kind.Step ≤ rank k
no_step_lowest number line kind.Size low wrong = absurd wrong
no_step_lowest number line kind.Empty low wrong = absurd wrong
no_step_lowest number line kind.Header low wrong = absurd (omega (arith, wrong.0, low))
no_step_lowest number line kind.Step low wrong = omega arith
no_step_lowest number line kind.Long low wrong = omega arith
no_step_lowest number line kind.Steps low wrong = omega arith
no_step_lowest number line kind.Options low wrong = absurd wrong
no_step_lowest number line kind.Secrets low wrong = absurd wrong

step_lowest : (number : ℕ) (line : List ℕ) (s : BareStep) (k : FaultKind) → 1 < number → Spells line s → IsWrong k number line → rank kind.Steps ≤ rank k
step_lowest number line s kind.Size low spells wrong = absurd wrong
step_lowest number line s kind.Empty low spells wrong = absurd wrong
step_lowest number line s kind.Header low spells wrong = absurd (omega (arith, wrong.0, low))
step_lowest number line s kind.Step low spells wrong = absurd (wrong.1 s spells)
step_lowest number line s kind.Long low spells wrong = absurd (omega (arith, wrong, spells_short line s spells))
step_lowest number line s kind.Steps low spells wrong = omega arith
step_lowest number line s kind.Options low spells wrong = absurd wrong
step_lowest number line s kind.Secrets low spells wrong = absurd wrong

header_lowest : (number : ℕ) (line : List ℕ) (k : FaultKind) → IsWrong k number line → rank kind.Header ≤ rank k
header_lowest number line kind.Size wrong = absurd wrong
header_lowest number line kind.Empty wrong = absurd wrong
header_lowest number line kind.Header wrong = omega arith
header_lowest number line kind.Step wrong = omega arith
header_lowest number line kind.Long wrong = omega arith
header_lowest number line kind.Steps wrong = omega arith
header_lowest number line kind.Options wrong = absurd wrong
header_lowest number line kind.Secrets wrong = absurd wrong

-- the first fault of no octets
pub nothing_first : (octets : List ℕ) → octets ≡ [] → FirstFault octets (record { line = 1; kind = kind.Empty })
nothing_first octets empty = record {
  is_fault = inl (record { nothing = empty; line = refl; kind = refl });
  first = λ other fault. elim fault [
    | inl nothing ↦ inr (sym nothing.line, subst (λ k. 1 ≤ rank k) (sym nothing.kind) (omega arith))
    | inr at ↦ let none : slice_get [] at.place ≡ Some at.line = subst (λ o. slice_get (lines_of o) at.place ≡ Some at.line) empty at.stands in absurd (nowhere at.place at.line none)
  ];
}
  where
    nowhere : (place : ℕ) (line : List ℕ) → slice_get [] place ≡ Some line → ⊥
    nowhere place line stands = cc

-- the first fault where the first line isn't the header
pub header_first : (octets line rest : List ℕ) → lines_of octets ≡ line ∷ lines_of rest → line ≢ codes "bare" → FirstFault octets (record { line = 1; kind = kind.Header })
header_first octets line rest lines other_line = record {
  is_fault = inr (record { place = 0; number = refl; line = line; stands = ap (λ ls. slice_get ls 0) lines; wrong = (refl, other_line) });
  first = λ other fault. elim fault [
    | inl nothing ↦ absurd (some_lines octets line (lines_of rest) lines nothing.nothing)
    | inr at ↦ elim (cases_lt 0 at.place) [
      | inl behind ↦ inl (omega (arith, behind, at.number))
      | inr first ↦ inr (omega (arith, first, at.number), header_lowest other.line at.line other.kind at.wrong)
    ]
  ];
}

-- These steps were read of the text, up to the rest.
pub record SoFar (text rest : List ℕ) (steps : List BareStep) : Type 0 where
  pub few : length steps ≤ MOST_STEPS
  pub bounded : AreSteps steps
  pub lines : lines_of text ≡ map word_of_step steps ++ lines_of rest

pub so_far_none : (text : List ℕ) → SoFar text text []
so_far_none text = record { few = omega arith; bounded = search rules; lines = refl }

steps_push : (steps : List BareStep) (s : BareStep) → AreSteps steps → IsStep s → AreSteps (steps ++ s ∷ [])
steps_push [] s are is = (is, search rules)
steps_push (x ∷ xs) s are is = (are.0, steps_push xs s are.1 is)

words_push : (steps : List BareStep) (s : BareStep) (others : List (List ℕ)) → map word_of_step steps ++ word_of_step s ∷ others ≡ map word_of_step (steps ++ s ∷ []) ++ others
words_push [] s others = refl
words_push (x ∷ xs) s others = ap (λ ls. word_of_step x ∷ ls) (words_push xs s others)

pub so_far_more : (text rest line others : List ℕ) (steps : List BareStep) (s : BareStep) → SoFar text rest steps → lines_of rest ≡ line ∷ lines_of others → Spells line s → length steps < MOST_STEPS → SoFar text others (steps ++ s ∷ [])
so_far_more text rest line others steps s so_far lines spells few = record {
  few = omega (arith, few, length-append steps (s ∷ []));
  bounded = steps_push steps s so_far.bounded spells.is_step;
  lines = so_far.lines ∙ ap (λ ls. map word_of_step steps ++ ls) (lines ∙ ap (λ l. l ∷ lines_of others) spells.word) ∙ words_push steps s (lines_of others);
}

so_far_begins : (octets text rest line others : List ℕ) (steps : List BareStep) → lines_of octets ≡ codes "bare" ∷ lines_of text → SoFar text rest steps → lines_of rest ≡ line ∷ lines_of others → Begins (lines_of octets) steps (line ∷ lines_of others)
so_far_begins octets text rest line others steps header so_far lines =
    header ∙ ap (λ ls. codes "bare" ∷ ls) (so_far.lines ∙ ap (λ ls. map word_of_step steps ++ ls) lines)

pub fault_no_step : (octets text rest line others : List ℕ) (steps : List BareStep) (number : ℕ) → lines_of octets ≡ codes "bare" ∷ lines_of text → SoFar text rest steps → lines_of rest ≡ line ∷ lines_of others → number ≡ length steps + 2 → IsNoStep line → FirstFault octets (record { line = number; kind = kind.Step })
fault_no_step octets text rest line others steps number header so_far lines is no_step =
    fault_behind octets steps line (lines_of others) (record { line = number; kind = kind.Step }) (so_far_begins octets text rest line others steps header so_far lines) so_far.few so_far.bounded is
    (omega (arith, is), no_step)
    (λ k wrong. no_step_lowest number line k (omega (arith, is)) wrong)

pub fault_too_many : (octets text rest line others : List ℕ) (steps : List BareStep) (s : BareStep) (number : ℕ) → lines_of octets ≡ codes "bare" ∷ lines_of text → SoFar text rest steps → lines_of rest ≡ line ∷ lines_of others → number ≡ length steps + 2 → Spells line s → MOST_STEPS ≤ length steps → FirstFault octets (record { line = number; kind = kind.Steps })
fault_too_many octets text rest line others steps s number header so_far lines is spells many =
    fault_behind octets steps line (lines_of others) (record { line = number; kind = kind.Steps }) (so_far_begins octets text rest line others steps header so_far lines) so_far.few so_far.bounded is
    (omega (arith, is, many))
    (λ k wrong. step_lowest number line s k (omega (arith, is)) spells wrong)

joined_words : (steps : List BareStep) → flat_map (λ (l : List ℕ). 10 ∷ l) (map word_of_step steps) ≡ flat_map (λ s. 10 ∷ word_of_step s) steps
joined_words [] = refl
joined_words (s ∷ ss) = ap (λ xs. 10 ∷ word_of_step s ++ xs) (joined_words ss)

-- A header and steps are a trace.
pub lines_spelled : (octets : List ℕ) (steps : List BareStep) → lines_of octets ≡ codes "bare" ∷ map word_of_step steps → length steps ≤ MOST_STEPS → AreSteps steps → IsBareTrace octets steps
lines_spelled octets steps lines few are =
    let joins : Joins octets (codes "bare" ∷ map word_of_step steps) = subst (Joins octets) lines (joins_lines octets) in
    record {
      few = few;
      bounded = are;
      text = elim joins [ inl is ↦ inl (is ∙ ap (λ xs. codes "bare" ++ xs) (joined_words steps)) | inr is ↦ inr (is ∙ ap (λ xs. (codes "bare" ++ xs) ++ 10 ∷ []) (joined_words steps)) ];
    }

pub no_octets : (xs : List ℕ) → length xs ≡ 0 → xs ≡ []
no_octets [] e = refl
no_octets (x ∷ xs) e = absurd (omega (arith, e))

pub so_far_all : (octets text rest : List ℕ) (steps : List BareStep) → lines_of octets ≡ codes "bare" ∷ lines_of text → SoFar text rest steps → rest ≡ [] → IsBareTrace octets steps
so_far_all octets text rest steps header so_far done =
    let none : lines_of rest ≡ [] = ap lines_of done in
    lines_spelled octets steps (header ∙ ap (λ ls. codes "bare" ∷ ls) (so_far.lines ∙ ap (λ ls. map word_of_step steps ++ ls) none ∙ append-nil (map word_of_step steps))) so_far.few so_far.bounded
