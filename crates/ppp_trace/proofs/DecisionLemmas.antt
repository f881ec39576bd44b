-- Any octets are a trace, or they have a first fault.
use Rattle.std.proofs.Common.{◌≡◌, ◌≢◌, ℕ, zero, suc, ◌+◌, ◌*◌, ◌<◌, ◌≤◌, ◌^◌, ◌⊎◌, true, List, [], ◌∷◌, ◌++◌, length, Option, None, Some, MatchOption, codes, decimal, drop, refl, ap, sym, ◌∙◌, arith, inl, inr, flat_map, length-append}
use Rattle.std.proofs.lemmas.Bool.{cases_lt}
use Rattle.std.proofs.lemmas.Bool.Decides.{eqb_tells}
use Rattle.ppp_base.specs.Numbers.{number_of}
use Rattle.ppp_base.specs.declared.numbers.LeadingZeros.TheVariants.{Refused}
use Rattle.ppp_fsm.specs.declared.event.FsmEvent.{FsmEvent}
use Rattle.ppp_mark.specs.Lines.{lines_of, onto_first}
use Rattle.ppp_mark.proofs.LinesLemmas.{is_free, number_word}
use Rattle.ppp_outside.specs.declared.spawner.ScriptEnd.{ScriptEnd}
use Rattle.ppp_outside.specs.declared.spawner.ScriptEnd.TheVariants.{Exit, Killed, NotStarted}
use Rattle.ppp_trace.specs.BareTrace.{AreSteps, IsBareTrace, IsNoTrace, spelled}
use Rattle.ppp_trace.specs.FirstFault.{FirstFault}
use Rattle.ppp_trace.specs.Steps.{IsAnswer, IsNoStep, Spells, word_of_answer, word_of_step}
use Rattle.ppp_trace.specs.declared.TheConstants.{MOST_STEPS}
use Rattle.ppp_trace.specs.declared.fault.BadTrace.{BadTrace}
use Rattle.ppp_trace.specs.declared.step.BareStep.{BareStep}
use Rattle.ppp_trace.specs.declared.step.BareStep.TheVariants as steps
use Rattle.ppp_trace.proofs.FullLemmas.{split_same}
use Rattle.ppp_trace.proofs.NumberLemmas.{number_cases}
use Rattle.ppp_trace.proofs.StepLemmas.{end_word, event_of, event_word, no_step, step_is_short}
use Rattle.ppp_trace.proofs.TraceLemmas.{SoFar, fault_no_step, fault_too_many, header_first, nothing_first, so_far_all, so_far_more, so_far_none}

-- what follows a front, if it stands there
abbrev Behind : List ℕ → List ℕ → Type 0
Behind front xs = ((ys : List ℕ) × (xs ≡ front ++ ys)) ⊎ ((ys : List ℕ) → xs ≢ front ++ ys)

behind_more : (b c : ℕ) (front xs : List ℕ) → c ≡ b → Behind front xs → Behind (b ∷ front) (c ∷ xs)
behind_more b c front xs same (inl there) = inl (there.0, ap (λ k. k ∷ xs) same ∙ ap (λ l. b ∷ l) there.1)
behind_more b c front xs same (inr none) = inr (λ ys e. none ys (ap (drop 1) e))

behind : (front xs : List ℕ) → Behind front xs
behind [] xs = inl (xs, refl)
behind (b ∷ front) [] = inr (λ ys e. cc)
behind (b ∷ front) (c ∷ xs) = elim (eqb_tells c b) [
  | inl p ↦ behind_more b c front xs p.1 (behind front xs)
  | inr p ↦ inr (λ ys e. p.1 (head_is c b xs (front ++ ys) e))
]
  where
    head_is : (c b : ℕ) (xs ys : List ℕ) → c ∷ xs ≡ b ∷ ys → c ≡ b
    head_is c b xs ys e = cc

same_list : (xs ys : List ℕ) → (xs ≡ ys) ⊎ (xs ≢ ys)
same_list [] [] = inl refl
same_list [] (y ∷ ys) = inr (λ e. cc)
same_list (x ∷ xs) [] = inr (λ e. cc)
same_list (x ∷ xs) (y ∷ ys) = elim (eqb_tells x y) [
  | inl p ↦ elim (same_list xs ys) [
    | inl e ↦ inl (ap (λ k. k ∷ xs) p.1 ∙ ap (λ l. y ∷ l) e)
    | inr n ↦ inr (λ e. n (ap (drop 1) e))
  ]
  | inr p ↦ inr (λ e. p.1 (head_is x y xs ys e))
]
  where
    head_is : (c b : ℕ) (xs ys : List ℕ) → c ∷ xs ≡ b ∷ ys → c ≡ b
    head_is c b xs ys e = cc

-- the number that digits are, if they are one
abbrev Number : ℕ → List ℕ → Type 0
Number most digits = ((n : ℕ) × (n ≤ most) × (digits ≡ decimal n)) ⊎ ((n : ℕ) → n ≤ most → digits ≢ decimal n)

number_read : (most : ℕ) (digits : List ℕ) (read : Option ℕ) → MatchOption read ((n : ℕ) → n ≤ most → digits ≢ decimal n) (λ n. (n ≤ most) × (digits ≡ decimal n)) → Number most digits
number_read most digits None none = inr none
number_read most digits (Some n) is = inl (n, is.0, is.1)

number : (most : ℕ) (digits : List ℕ) → most < 2 ^ 64 → Number most digits
number most digits fits = number_read most digits (number_of Refused 0 most digits) (number_cases digits most (number_of Refused 0 most digits) fits refl)

-- the text up to its first space, if it has one
abbrev Split : List ℕ → Type 0
Split xs = ((a : List ℕ) × (b : List ℕ) × (is_free 32 a ≡ true) × (xs ≡ a ++ 32 ∷ b)) ⊎ ((a b : List ℕ) → xs ≢ a ++ 32 ∷ b)

split : (xs : List ℕ) → Split xs
split [] = inr none
  where
    none : (a b : List ℕ) → [] ≢ a ++ 32 ∷ b
    none [] b = λ e. cc
    none (x ∷ a) b = λ e. cc
split (x ∷ xs) = elim (eqb_tells x 32) [
  | inl p ↦ inl ([], xs, refl, ap (λ k. k ∷ xs) p.1)
  | inr p ↦ elim (split xs) [
    | inl s ↦ inl (x ∷ s.0, s.1, rw p.0 s.2, ap (λ l. x ∷ l) s.3)
    | inr n ↦ inr (none x xs p.1 n)
  ]
]
  where
    none : (x : ℕ) (xs : List ℕ) → (x ≡ 32 → ⊥) → ((a b : List ℕ) → xs ≢ a ++ 32 ∷ b) → (a b : List ℕ) → x ∷ xs ≢ a ++ 32 ∷ b
    none x xs other n [] b = λ e. other (head_is x 32 xs b e)
      where
        head_is : (c b : ℕ) (xs ys : List ℕ) → c ∷ xs ≡ b ∷ ys → c ≡ b
        head_is c b xs ys e = cc
    none x xs other n (y ∷ a) b = λ e. n a b (ap (drop 1) e)

-- how a script ended, if the text says it
abbrev Answer : List ℕ → Type 0
Answer text = ((a : ScriptEnd) × IsAnswer a × (text ≡ word_of_answer a)) ⊎ ((a : ScriptEnd) → IsAnswer a → text ≢ word_of_answer a)

no_answer : (text : List ℕ) → text ≢ codes "killed" → text ≢ codes "none" → ((status : ℕ) → status < 2 ^ 8 → text ≢ codes "exit " ++ decimal status)
    → (a : ScriptEnd) → IsAnswer a → text ≢ word_of_answer a
no_answer text killed none exit (Exit status) is = exit status is
no_answer text killed none exit Killed is = killed
no_answer text killed none exit NotStarted is = none

exits : (text : List ℕ) → text ≢ codes "killed" → text ≢ codes "none" → Behind (codes "exit ") text → Answer text
exits text killed none (inr other) = inr (no_answer text killed none (λ status small e. other (decimal status) e))
exits text killed none (inl there) = elim (number 255 there.0 (omega arith)) [
  | inl n ↦ inl (Exit n.0, omega (arith, n.1), there.1 ∙ ap (λ ds. codes "exit " ++ ds) n.2)
  | inr never ↦ inr (no_answer text killed none (λ status small e. never status (omega (arith, small)) (ap (drop 5) (sym there.1 ∙ e))))
]

answer : (text : List ℕ) → Answer text
answer text = elim (same_list text (codes "killed")) [
  | inl e ↦ inl (Killed, tt, e)
  | inr killed ↦ elim (same_list text (codes "none")) [
    | inl e ↦ inl (NotStarted, tt, e)
    | inr none ↦ exits text killed none (behind (codes "exit ") text)
  ]
]

-- the end of a script, if the line is one
abbrev EndStep : List ℕ → Type 0
EndStep line = ((s : BareStep) × Spells line s) ⊎ ((job : ℕ) (a : ScriptEnd) → Spells line (steps.End job a) → ⊥)

end_parts : (line words : List ℕ) (job : ℕ) (a : ScriptEnd) → line ≡ codes "end " ++ words → Spells line (steps.End job a) → words ≡ decimal job ++ 32 ∷ word_of_answer a
end_parts line words job a is spells = ap (drop 4) (sym is ∙ spells.word ∙ end_word job a)

job_split : (line words front back : List ℕ) (job : ℕ) (a : ScriptEnd) → line ≡ codes "end " ++ words → is_free 32 front ≡ true → words ≡ front ++ 32 ∷ back
    → Spells line (steps.End job a) → (front ≡ decimal job) × (back ≡ word_of_answer a)
job_split line words front back job a is free parts spells =
    split_same front (decimal job) back (word_of_answer a) free (number_word job (omega (arith, spells.is_step.0))) (sym parts ∙ end_parts line words job a is spells)

answered : (line words front back : List ℕ) (job : ℕ) → line ≡ codes "end " ++ words → is_free 32 front ≡ true → words ≡ front ++ 32 ∷ back → job ≤ 4294967295 → front ≡ decimal job
    → Answer back → EndStep line
answered line words front back job is free parts small number_is (inl a) = inl (
  steps.End job a.0,
  record {
    is_step = (omega (arith, small), a.1);
    word = is ∙ ap (λ ws. codes "end " ++ ws) (parts ∙ ap (λ ds. ds ++ 32 ∷ back) number_is ∙ ap (λ b. decimal job ++ 32 ∷ b) a.2) ∙ sym (end_word job a.0);
  },
)
answered line words front back job is free parts small number_is (inr never) =
    inr (λ other a spells. never a spells.is_step.1 (job_split line words front back other a is free parts spells).1)

numbered : (line words front back : List ℕ) → line ≡ codes "end " ++ words → is_free 32 front ≡ true → words ≡ front ++ 32 ∷ back → Number 4294967295 front → EndStep line
numbered line words front back is free parts (inl n) = answered line words front back n.0 is free parts n.1 n.2 (answer back)
numbered line words front back is free parts (inr never) =
    inr (λ job a spells. never job (omega (arith, spells.is_step.0)) (job_split line words front back job a is free parts spells).0)

spaced : (line words : List ℕ) → line ≡ codes "end " ++ words → Split words → EndStep line
spaced line words is (inl s) = numbered line words s.0 s.1 is s.2 s.3 (number 4294967295 s.0 (omega arith))
spaced line words is (inr never) = inr (λ job a spells. never (decimal job) (word_of_answer a) (end_parts line words job a is spells))

end_step : (line : List ℕ) → Behind (codes "end ") line → EndStep line
end_step line (inl there) = spaced line there.0 there.1 (split there.0)
end_step line (inr other) = inr (λ job a spells. other (decimal job ++ 32 ∷ word_of_answer a) (spells.word ∙ end_word job a))

-- A line is a step, or it is none.
abbrev Step : List ℕ → Type 0
Step line = ((s : BareStep) × Spells line s) ⊎ IsNoStep line

named : (line : List ℕ) (event : Option FsmEvent) → event_of line ≡ event → Step line
named line (Some e) found = inl (steps.Event e, record { is_step = tt; word = event_word line e found })
named line None none = elim (end_step line (behind (codes "end ") line)) [
  | inl s ↦ inl s
  | inr never ↦ inr (no_step line none never)
]

step : (line : List ℕ) → Step line
step line = named line (event_of line) refl

-- the first line of a text, and the others
record First (text : List ℕ) : Type 0 where
  line : List ℕ
  others : List ℕ
  lines : lines_of text ≡ line ∷ lines_of others
  shorter : length others < length text

first : (b : ℕ) (bs : List ℕ) → First (b ∷ bs)
first b [] = elim (eqb_tells b 10) [
  | inl p ↦ record { line = []; others = []; lines = rw p.0 refl; shorter = omega arith }
  | inr p ↦ record { line = b ∷ []; others = []; lines = rw p.0 refl; shorter = omega arith }
]
first b (c ∷ bs) = elim (eqb_tells b 10) [
  | inl p ↦ record { line = []; others = c ∷ bs; lines = rw p.0 refl; shorter = omega arith }
  | inr p ↦
      let f = first c bs in
      record { line = b ∷ f.line; others = f.others; lines = rw p.0 (ap (onto_first b) f.lines); shorter = omega (arith, f.shorter) }
]

-- Octets are a trace, or they have a first fault.
abbrev Judged : List ℕ → Type 0
Judged octets = ((steps : List BareStep) × IsBareTrace octets steps) ⊎ ((bad : BadTrace) × FirstFault octets bad)

walk : (fuel : ℕ) (octets text rest : List ℕ) (read : List BareStep) → lines_of octets ≡ codes "bare" ∷ lines_of text → SoFar text rest read → length rest ≤ fuel → Judged octets
walk fuel octets text [] read header so_far short = inl (read, so_far_all octets text [] read header so_far refl)
walk zero octets text (b ∷ bs) read header so_far short = absurd (omega (arith, short))
walk (suc fuel) octets text (b ∷ bs) read header so_far short =
    let f = first b bs in
    elim (step f.line) [
      | inr never ↦ inr (_, fault_no_step octets text (b ∷ bs) f.line f.others read (length read + 2) header so_far f.lines refl never)
      | inl s ↦ elim (cases_lt (length read) MOST_STEPS) [
        | inl few ↦ walk fuel octets text f.others (read ++ s.0 ∷ []) header (so_far_more text (b ∷ bs) f.line f.others read s.0 so_far f.lines s.1 few) (omega (arith, short, f.shorter))
        | inr many ↦ inr (_, fault_too_many octets text (b ∷ bs) f.line f.others read s.0 (length read + 2) header so_far f.lines refl s.1 (omega (arith, many)))
      ]
    ]

judged : (octets : List ℕ) → Judged octets
judged [] = inr (_, nothing_first [] refl)
judged (b ∷ bs) =
    let f = first b bs in
    elim (same_list f.line (codes "bare")) [
      | inl is ↦ walk (length f.others) (b ∷ bs) f.others f.others [] (f.lines ∙ ap (λ l. l ∷ lines_of f.others) is) (so_far_none f.others) (omega arith)
      | inr other ↦ inr (_, header_first (b ∷ bs) f.line f.others f.lines other)
    ]

pub first_fault : (octets : List ℕ) → IsNoTrace octets → (bad : BadTrace) × FirstFault octets bad
first_fault octets none = elim (judged octets) [
  | inl trace ↦ absurd (none trace.0 trace.1)
  | inr fault ↦ fault
]

steps_length : (steps : List BareStep) → AreSteps steps → length (flat_map (λ s. 10 ∷ word_of_step s) steps) ≤ 31 * length steps
steps_length [] all = omega arith
steps_length (s ∷ ss) all =
    omega (arith, step_is_short s all.0, steps_length ss all.1, length-append (word_of_step s) (flat_map (λ s. 10 ∷ word_of_step s) ss))

pub trace_is_short : (octets : List ℕ) (steps : List BareStep) → IsBareTrace octets steps → length octets ≤ 5 + 31 * length steps
trace_is_short octets steps h = elim h.text [
  | inl is ↦ rw is (omega (arith, steps_length steps h.bounded))
  | inr is ↦ rw is (omega (arith, steps_length steps h.bounded, length-append (spelled steps) (10 ∷ [])))
]
