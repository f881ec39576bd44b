-- The words of steps, and the lines of a text that has them.
use Rattle.std.proofs.Common.{◌+◌, ◌≡◌, ℕ, ◌≤◌, ◌<◌, ◌^◌, ◌⊎◌, Bool, true, false, List, [], ◌∷◌, ◌++◌, length, Option, Some, None, refl, ap, sym, subst, ◌∙◌, inl, inr, arith, append_assoc, length-append, get_or, take, drop, decimal, codes, find, flat_map, bytes_eq, nat_le}
use Rattle.std.proofs.lemmas.Bool.Decides.{eqb_tells, nat_tests}
use Rattle.std.proofs.lemmas.Fmt.{decimal_injective, length-decimal-le}
use Rattle.std.proofs.Math.Seq.{drop-append-add, take-append_seam}
use Rattle.std.proofs.lemmas.Slice.Eq.{bytes_eq-Decides}
use Rattle.ppp_fsm.specs.declared.event.FsmEvent.{FsmEvent}
use Rattle.ppp_fsm.specs.declared.event.FsmEvent.TheVariants.{Up, Down, Open, Close, Timeout, RcrGood, RcrBad, Rca, Rcn, Rtr, Rta, Ruc, RxjGood, RxjBad, Rxr}
use Rattle.ppp_outside.specs.declared.spawner.ScriptEnd.{ScriptEnd}
use Rattle.ppp_outside.specs.declared.spawner.ScriptEnd.TheVariants.{Exit, Killed, NotStarted}
use Rattle.ppp_trace.specs.declared.TheConstants.{EVENTS}
use Rattle.ppp_trace.specs.declared.step.BareStep.{BareStep}
use Rattle.ppp_trace.specs.declared.step.BareStep.TheVariants as steps
use Rattle.ppp_trace.specs.Words.{word_of}
use Rattle.ppp_trace.specs.Steps.{IsAnswer, IsNoStep, IsStep, Spells, word_of_answer, word_of_step}
use Rattle.ppp_mark.specs.Lines.{lines_of, onto_first}
use Rattle.ppp_mark.proofs.LinesLemmas.{free_append, is_free, is_word, number_line, number_word, place_is, no_lines}

-- lines with a newline between each two
abbrev pub joined : List (List ℕ) → List ℕ
joined [] = []
joined (line ∷ lines) = line ++ flat_map (λ l. 10 ∷ l) lines

-- a text is its lines, and at the end a newline or none
abbrev pub Joins : List ℕ → List (List ℕ) → Type 0
Joins xs lines = (xs ≡ joined lines) ⊎ (xs ≡ joined lines ++ 10 ∷ [])

joins_newline : (bs : List ℕ) (lines : List (List ℕ)) → (lines ≡ [] → bs ≡ []) → Joins bs lines → Joins (10 ∷ bs) ([] ∷ lines)
joins_newline bs [] empty joins = inr (ap (λ xs. 10 ∷ xs) (empty refl))
joins_newline bs (line ∷ lines) empty joins = elim joins [ inl e ↦ inl (ap (λ xs. 10 ∷ xs) e) | inr e ↦ inr (ap (λ xs. 10 ∷ xs) e) ]

joins_onto : (b : ℕ) (bs : List ℕ) (lines : List (List ℕ)) → (lines ≡ [] → bs ≡ []) → Joins bs lines → Joins (b ∷ bs) (onto_first b lines)
joins_onto b bs [] empty joins = inl (ap (λ xs. b ∷ xs) (empty refl))
joins_onto b bs (line ∷ lines) empty joins = elim joins [ inl e ↦ inl (ap (λ xs. b ∷ xs) e) | inr e ↦ inr (ap (λ xs. b ∷ xs) e) ]

-- A text is the lines that it has.
pub joins_lines : (xs : List ℕ) → Joins xs (lines_of xs)
joins_lines [] = inl refl
joins_lines (b ∷ bs) = elim (eqb_tells b 10) [
  | inl p ↦ rw (p.0, p.1) (joins_newline bs (lines_of bs) (no_lines bs) (joins_lines bs))
  | inr p ↦ rw p.0 (joins_onto b bs (lines_of bs) (no_lines bs) (joins_lines bs))
]

-- what is found passes the test
pub find_passes : {X : Type 0} (p : X → Bool) (xs : List X) (x : X) → find p xs ≡ Some x → p x ≡ true
find_passes p [] x e = cc
find_passes p (y ∷ ys) x e = elim (cases (p y)) [
  | inl h ↦ let same : Some y ≡ Some x = rw h at e in let is : y ≡ x = cc in rw (← is) h
  | inr h ↦ find_passes p ys x (rw h at e)
]
  where
    cases : (b : Bool) → (b ≡ true) ⊎ (b ≡ false)
    cases true = inl refl
    cases false = inr refl

-- the event that a line names
abbrev pub event_of : List ℕ → Option FsmEvent
event_of line = find (λ e. bytes_eq (word_of e) line) EVENTS

pub event_word : (line : List ℕ) (e : FsmEvent) → event_of line ≡ Some e → line ≡ word_of e
event_word line e found = sym ((bytes_eq-Decides (word_of e) line).0 (find_passes (λ e. bytes_eq (word_of e) line) EVENTS e found))

pub word_is_read : (e : FsmEvent) → event_of (word_of e) ≡ Some e
unfolding word_of
word_is_read Up = refl
word_is_read Down = refl
word_is_read Open = refl
word_is_read Close = refl
word_is_read Timeout = refl
word_is_read RcrGood = refl
word_is_read RcrBad = refl
word_is_read Rca = refl
word_is_read Rcn = refl
word_is_read Rtr = refl
word_is_read Rta = refl
word_is_read Ruc = refl
word_is_read RxjGood = refl
word_is_read RxjBad = refl
word_is_read Rxr = refl

-- A line that is neither an event nor a script's end is no step.
pub no_step : (line : List ℕ) → event_of line ≡ None → ((job : ℕ) (answer : ScriptEnd) → Spells line (steps.End job answer) → ⊥) → IsNoStep line
no_step line none ends (steps.Event e) spells =
    let found : event_of line ≡ Some e = subst (λ l. event_of l ≡ Some e) (sym spells.word) (word_is_read e) in
    cc
no_step line none ends (steps.End job answer) spells = ends job answer spells

word_is_word : (e : FsmEvent) → is_word (word_of e) ≡ true
unfolding word_of
word_is_word Up = refl
word_is_word Down = refl
word_is_word Open = refl
word_is_word Close = refl
word_is_word Timeout = refl
word_is_word RcrGood = refl
word_is_word RcrBad = refl
word_is_word Rca = refl
word_is_word Rcn = refl
word_is_word Rtr = refl
word_is_word Rta = refl
word_is_word Ruc = refl
word_is_word RxjGood = refl
word_is_word RxjBad = refl
word_is_word Rxr = refl

answer_is_clean : (a : ScriptEnd) → IsAnswer a → is_free 10 (word_of_answer a) ≡ true
answer_is_clean (Exit status) h = number_line status (omega (arith, h))
answer_is_clean Killed h = refl
answer_is_clean NotStarted h = refl

-- the line of a script's end, from its front
pub end_word : (job : ℕ) (answer : ScriptEnd) → word_of_step (steps.End job answer) ≡ codes "end " ++ (decimal job ++ 32 ∷ word_of_answer answer)
end_word job answer = ap (λ xs. codes "end " ++ xs) (append_assoc (decimal job) (codes " ") (word_of_answer answer))

pub step_is_word : (s : BareStep) → IsStep s → is_word (word_of_step s) ≡ true
step_is_word (steps.Event e) h = word_is_word e
step_is_word (steps.End job answer) h =
    subst (λ l. is_word l ≡ true) (sym (end_word job answer)) (free_append 10 (decimal job) (32 ∷ word_of_answer answer) (number_line job (omega (arith, h.0))) (answer_is_clean answer h.1))

word_is_short : (e : FsmEvent) → nat_le (length (word_of e)) 7 ≡ true
unfolding word_of
word_is_short Up = refl
word_is_short Down = refl
word_is_short Open = refl
word_is_short Close = refl
word_is_short Timeout = refl
word_is_short RcrGood = refl
word_is_short RcrBad = refl
word_is_short Rca = refl
word_is_short Rcn = refl
word_is_short Rtr = refl
word_is_short Rta = refl
word_is_short Ruc = refl
word_is_short RxjGood = refl
word_is_short RxjBad = refl
word_is_short Rxr = refl

answer_is_short : (a : ScriptEnd) → IsAnswer a → length (word_of_answer a) ≤ 15
answer_is_short (Exit status) h =
    let digits : length (decimal status) ≤ 10 = length-decimal-le 10 status (omega arith) (omega (arith, h)) (omega (arith, h)) in
    omega (arith, digits)
answer_is_short Killed h = omega arith
answer_is_short NotStarted h = omega arith

-- A step is short.
pub step_is_short : (s : BareStep) → IsStep s → length (word_of_step s) ≤ 30
step_is_short (steps.Event e) h = let short : length (word_of e) ≤ 7 = grind (arith, nat_tests, word_is_short e) in omega (arith, short)
step_is_short (steps.End job answer) h =
    let digits : length (decimal job) ≤ 10 = length-decimal-le 10 job (omega arith) (omega (arith, h.0)) (omega (arith, h.0)) in
    subst (λ l. length l ≤ 30) (sym (end_word job answer)) (omega (arith, digits, answer_is_short answer h.1, length-append (decimal job) (32 ∷ word_of_answer answer)))

-- An exit status above 255 is none.
pub too_great : (text : List ℕ) (n : ℕ) → n < 2 ^ 32 → 255 < n → text ≡ codes "exit " ++ decimal n → (a : ScriptEnd) → IsAnswer a → text ≡ word_of_answer a → ⊥
too_great text n small great is (Exit status) h e =
    let same : decimal n ≡ decimal status = ap (drop 5) (sym is ∙ e) in
    let n_is : n ≡ status = decimal_injective n status (omega (arith, small)) (omega (arith, h)) same in
    omega (arith, n_is, h, great)
too_great text n small great is Killed h e = let first : 101 ≡ 107 = ap (λ xs. get_or xs 0 0) (sym is ∙ e) in omega (arith, first)
too_great text n small great is NotStarted h e = let first : 101 ≡ 110 = ap (λ xs. get_or xs 0 0) (sym is ∙ e) in omega (arith, first)

-- the number and the answer of a script's end
pub end_parts : (line words : List ℕ) (at : ℕ) → line ≡ codes "end " ++ words → at ≤ length words → ((k : ℕ) → k < at → get_or words k 0 ≡ 32 → ⊥) → (at < length words → get_or words at 0 ≡ 32) → (job : ℕ) (answer : ScriptEnd) → Spells line (steps.End job answer) → (job < 2 ^ 32) × IsAnswer answer × (take at words ≡ decimal job) × (drop (at + 1) words ≡ word_of_answer answer)
end_parts line words at is within none found job answer spells =
    let back = word_of_answer answer in
    let parts : words ≡ decimal job ++ 32 ∷ back = ap (drop 4) (sym is ∙ spells.word ∙ end_word job answer) in
    let place : at ≡ length (decimal job) =
    place_is 32 (decimal job) back at (number_word job (omega (arith, spells.is_step.0)))
    (subst (λ ws. (k : ℕ) → k < at → get_or ws k 0 ≡ 32 → ⊥) parts none)
    (subst (λ ws. at ≤ length ws) parts within)
    (subst (λ ws. at < length ws → get_or ws at 0 ≡ 32) parts found) in (
      spells.is_step.0,
      spells.is_step.1,
      ap (λ ws. take at ws) parts ∙ ap (λ n. take n (decimal job ++ 32 ∷ back)) place ∙ take-append_seam (decimal job) (32 ∷ back),
      ap (λ ws. drop (at + 1) ws) parts ∙ ap (λ n. drop (n + 1) (decimal job ++ 32 ∷ back)) place ∙ drop-append-add (decimal job) (32 ∷ back) 1,
    )
