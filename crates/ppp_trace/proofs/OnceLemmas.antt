-- A trace has one list of steps and no fault, and octets have one first fault.
use Rattle.std.proofs.Common.{◌≡◌, ℕ, ◌<◌, true, false, List, [], ◌∷◌, ◌++◌, length, map, Some, refl, ap, ap₂, sym, subst, ◌∙◌, inl, inr, arith, append_assoc, append-nil, get_or, drop, decimal, codes, flat_map, slice_get, suc}
use Rattle.std.proofs.Math.Dec.{eqb}
use Rattle.std.proofs.lemmas.Fmt.{decimal_injective}
use Rattle.std.proofs.lemmas.Option.{same_Some, slice_get_within}
use Rattle.ppp_fsm.specs.declared.event.FsmEvent.{FsmEvent}
use Rattle.ppp_fsm.specs.declared.event.FsmEvent.TheVariants.{Up, Down, Open, Close, Timeout, RcrGood, RcrBad, Rca, Rcn, Rtr, Rta, Ruc, RxjGood, RxjBad, Rxr}
use Rattle.ppp_outside.specs.declared.spawner.ScriptEnd.{ScriptEnd}
use Rattle.ppp_outside.specs.declared.spawner.ScriptEnd.TheVariants.{Exit, Killed, NotStarted}
use Rattle.ppp_trace.specs.declared.fault.BadTrace.{BadTrace}
use Rattle.ppp_trace.specs.declared.fault.FaultKind.{FaultKind}
use Rattle.ppp_trace.specs.declared.fault.FaultKind.TheVariants as kind
use Rattle.ppp_trace.specs.declared.step.BareStep.{BareStep}
use Rattle.ppp_trace.specs.declared.step.BareStep.TheVariants as steps
use Rattle.ppp_trace.specs.BareTrace.{AreSteps, IsBareTrace}
use Rattle.ppp_trace.specs.FirstFault.{FirstFault, IsWrong, rank}
use Rattle.ppp_mark.specs.Lines.{lines_of}
use Rattle.ppp_trace.specs.Words.{word_of}
use Rattle.ppp_trace.specs.Steps.{IsAnswer, IsStep, word_of_answer, word_of_step}
use Rattle.ppp_trace.proofs.StepLemmas.{end_word, event_of, step_is_word, word_is_read}
use Rattle.ppp_mark.proofs.LinesLemmas.{is_word, line_alone, line_then, number_word, split_one, word_is_clean}
use Rattle.ppp_trace.proofs.TraceLemmas.{right_before, some_lines}

spelled_lines : (line : List ℕ) (ss : List BareStep) → is_word line ≡ true → AreSteps ss → lines_of (line ++ flat_map (λ s. 10 ∷ word_of_step s) ss) ≡ line ∷ map word_of_step ss
spelled_lines line [] word are = rw append-nil (line_alone line word)
spelled_lines line (s ∷ ss) word are =
    line_then line (word_of_step s ++ flat_map (λ s. 10 ∷ word_of_step s) ss) (word_is_clean line word)
    ∙ ap (λ lines. line ∷ lines) (spelled_lines (word_of_step s) ss (step_is_word s are.0) are.1)

spelled_ended : (line : List ℕ) (ss : List BareStep) → is_word line ≡ true → AreSteps ss → lines_of ((line ++ flat_map (λ s. 10 ∷ word_of_step s) ss) ++ 10 ∷ []) ≡ line ∷ map word_of_step ss
spelled_ended line [] word are = rw append-nil (line_then line [] (word_is_clean line word))
spelled_ended line (s ∷ ss) word are =
    ap lines_of (append_assoc line (10 ∷ word_of_step s ++ flat_map (λ s. 10 ∷ word_of_step s) ss) (10 ∷ []))
    ∙ line_then line ((word_of_step s ++ flat_map (λ s. 10 ∷ word_of_step s) ss) ++ 10 ∷ []) (word_is_clean line word)
    ∙ ap (λ lines. line ∷ lines) (spelled_ended (word_of_step s) ss (step_is_word s are.0) are.1)

-- the lines of a trace
pub trace_lines : (octets : List ℕ) (ss : List BareStep) → IsBareTrace octets ss → lines_of octets ≡ codes "bare" ∷ map word_of_step ss
trace_lines octets ss trace = elim trace.text [
  | inl is ↦ ap lines_of is ∙ spelled_lines (codes "bare") ss refl trace.bounded
  | inr is ↦ ap lines_of is ∙ spelled_ended (codes "bare") ss refl trace.bounded
]

mapped_length : (ss : List BareStep) → length (map word_of_step ss) ≡ length ss
mapped_length [] = refl
mapped_length (s ∷ ss) = ap suc (mapped_length ss)

-- No trace has a fault.
pub no_fault : (octets : List ℕ) (ss : List BareStep) (bad : BadTrace) → IsBareTrace octets ss → FirstFault octets bad → ⊥
no_fault octets ss bad trace fault =
    let lines = trace_lines octets ss trace in
    let begins : lines_of octets ≡ codes "bare" ∷ (map word_of_step ss ++ []) = lines ∙ ap (λ ls. codes "bare" ∷ ls) (sym (append-nil (map word_of_step ss))) in
    elim fault.is_fault [
      | inl nothing ↦ some_lines octets (codes "bare") (map word_of_step ss) lines nothing.nothing
      | inr at ↦
          let within : at.place < length (lines_of octets) = slice_get_within (lines_of octets) at.place at.line at.stands in
          let count : length (lines_of octets) ≡ suc (length ss) = ap length lines ∙ ap suc (mapped_length ss) in
          right_before ss [] at.place at.line bad.kind trace.few trace.bounded (omega (arith, within, count))
          (subst (λ ls. slice_get ls at.place ≡ Some at.line) begins at.stands) (subst (λ n. IsWrong bad.kind n at.line) at.number at.wrong)
    ]

abbrev kinds : List FaultKind
kinds = kind.Size ∷ kind.Empty ∷ kind.Header ∷ kind.Step ∷ kind.Long ∷ kind.Steps ∷ kind.Options ∷ kind.Secrets ∷ []

ranked : (k : FaultKind) → slice_get kinds (rank k) ≡ Some k
ranked kind.Size = refl
ranked kind.Empty = refl
ranked kind.Header = refl
ranked kind.Step = refl
ranked kind.Long = refl
ranked kind.Steps = refl
ranked kind.Options = refl
ranked kind.Secrets = refl

same_bad : (a b : BadTrace) → a.line ≡ b.line → rank a.kind ≡ rank b.kind → a ≡ b
same_bad a b line order =
    let made : ℕ → FaultKind → BadTrace = λ l k. record { line = l; kind = k } in
    ap₂ made line (same_Some a.kind b.kind (sym (ranked a.kind) ∙ ap (slice_get kinds) order ∙ ranked b.kind))

-- Octets have one first fault alone.
pub one_fault : (octets : List ℕ) (a b : BadTrace) → FirstFault octets a → FirstFault octets b → a ≡ b
one_fault octets a b x y = elim (x.first b y.is_fault) [
  | inl p ↦ absurd (elim (y.first a x.is_fault) [ inl q ↦ omega (arith, p, q) | inr q ↦ omega (arith, p, q.0) ])
  | inr p ↦ elim (y.first a x.is_fault) [
    | inl q ↦ absurd (omega (arith, q, p.0))
    | inr q ↦ same_bad a b p.0 (omega (arith, p.1, q.1))
  ]
]

fourth : (e : FsmEvent) → eqb (get_or (word_of e) 3 0) 32 ≡ false
unfolding word_of
fourth Up = refl
fourth Down = refl
fourth Open = refl
fourth Close = refl
fourth Timeout = refl
fourth RcrGood = refl
fourth RcrBad = refl
fourth Rca = refl
fourth Rcn = refl
fourth Rtr = refl
fourth Rta = refl
fourth Ruc = refl
fourth RxjGood = refl
fourth RxjBad = refl
fourth Rxr = refl

no_end : (e : FsmEvent) (job : ℕ) (answer : ScriptEnd) → word_of e ≡ word_of_step (steps.End job answer) → ⊥
no_end e job answer same =
    let space : get_or (word_of e) 3 0 ≡ 32 = ap (λ l. get_or l 3 0) same in
    let wrong : eqb 32 32 ≡ false = subst (λ x. eqb x 32 ≡ false) space (fourth e) in
    let plain : true ≡ false = wrong in
    cc

answer_one : (a b : ScriptEnd) → IsAnswer a → IsAnswer b → word_of_answer a ≡ word_of_answer b → a ≡ b
answer_one (Exit m) (Exit n) ha hb e = ap Exit (decimal_injective m n (omega (arith, ha)) (omega (arith, hb)) (ap (drop 5) e))
answer_one (Exit m) Killed ha hb e = let head : 101 ≡ 107 = ap (λ l. get_or l 0 0) e in absurd (omega (arith, head))
answer_one (Exit m) NotStarted ha hb e = let head : 101 ≡ 110 = ap (λ l. get_or l 0 0) e in absurd (omega (arith, head))
answer_one Killed (Exit n) ha hb e = let head : 107 ≡ 101 = ap (λ l. get_or l 0 0) e in absurd (omega (arith, head))
answer_one Killed Killed ha hb e = refl
answer_one Killed NotStarted ha hb e = let head : 107 ≡ 110 = ap (λ l. get_or l 0 0) e in absurd (omega (arith, head))
answer_one NotStarted (Exit n) ha hb e = let head : 110 ≡ 101 = ap (λ l. get_or l 0 0) e in absurd (omega (arith, head))
answer_one NotStarted Killed ha hb e = let head : 110 ≡ 107 = ap (λ l. get_or l 0 0) e in absurd (omega (arith, head))
answer_one NotStarted NotStarted ha hb e = refl

step_one : (x y : BareStep) → IsStep x → IsStep y → word_of_step x ≡ word_of_step y → x ≡ y
step_one (steps.Event e) (steps.Event f) hx hy same = ap steps.Event (same_Some e f (sym (word_is_read e) ∙ ap event_of same ∙ word_is_read f))
step_one (steps.Event e) (steps.End job answer) hx hy same = absurd (no_end e job answer same)
step_one (steps.End job answer) (steps.Event e) hx hy same = absurd (no_end e job answer (sym same))
step_one (steps.End j a) (steps.End k b) hx hy same =
    let tails : decimal j ++ 32 ∷ word_of_answer a ≡ decimal k ++ 32 ∷ word_of_answer b = ap (drop 4) (sym (end_word j a) ∙ same ∙ end_word k b) in
    let parts = split_one 32 (decimal j) (decimal k) (word_of_answer a) (word_of_answer b) (number_word j (omega (arith, hx.0))) (number_word k (omega (arith, hy.0))) tails in
    ap₂ steps.End (decimal_injective j k (omega (arith, hx.0)) (omega (arith, hy.0)) parts.0) (answer_one a b hx.1 hy.1 parts.1)

words_one : (xs ys : List BareStep) → AreSteps xs → AreSteps ys → map word_of_step xs ≡ map word_of_step ys → xs ≡ ys
words_one [] [] hx hy e = refl
words_one [] (y ∷ ys) hx hy e = cc
words_one (x ∷ xs) [] hx hy e = cc
words_one (x ∷ xs) (y ∷ ys) hx hy e =
    let head : word_of_step x ≡ word_of_step y = same_Some (word_of_step x) (word_of_step y) (ap (λ ls. slice_get ls 0) e) in
    ap₂ (λ z zs. z ∷ zs) (step_one x y hx.0 hy.0 head) (words_one xs ys hx.1 hy.1 (ap (drop 1) e))

-- A trace has one list of steps alone.
pub one_spelling : (octets : List ℕ) (xs ys : List BareStep) → IsBareTrace octets xs → IsBareTrace octets ys → xs ≡ ys
one_spelling octets xs ys a b = words_one xs ys a.bounded b.bounded (ap (drop 1) (sym (trace_lines octets xs a) ∙ trace_lines octets ys b))
