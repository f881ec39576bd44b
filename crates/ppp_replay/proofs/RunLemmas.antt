-- What a source gave, against what it held.
use Rattle.std.proofs.Common.{◌≡◌, ℕ, ◌+◌, ◌*◌, ◌<◌, ◌≤◌, ◌⊎◌, List, [], ◌∷◌, ◌++◌, length, get_or, refl, sym, ap, ◌∙◌, subst, arith, inl, inr, append_assoc, append-nil}
use Rattle.std.specs.Prelude.{Option, Some, None, codes, Bool, true, false, IsTrue}
use Rattle.std.specs.Bool.{OnFalse, OnTrue}
use Rattle.std.specs.Io.KnownBytes.{Consumes, IsAtEnd}
use Rattle.std.proofs.lemmas.List.{length-append}
use Rattle.ppp_outside.specs.Reading.{GivesAll}
use Rattle.ppp_outside.specs.Sink.{SinkState}
use Rattle.ppp_outside.specs.Source.{SourceState}
use Rattle.ppp_outside.specs.Writing.{Rests}
use Rattle.ppp_trace.proofs.DecisionLemmas.{trace_is_short}
use Rattle.ppp_trace.proofs.OnceLemmas.{no_fault}
use Rattle.ppp_trace.specs.BareTrace.{IsBareTrace}
use Rattle.ppp_trace.specs.FirstFault.{FirstFault}
use Rattle.ppp_trace.specs.declared.TheConstants.{MOST_OCTETS}
use Rattle.ppp_trace.specs.declared.fault.BadTrace.{BadTrace}
use Rattle.ppp_trace.specs.declared.step.BareStep.{BareStep}
use Rattle.ppp_report.specs.BadLine.{IsLawfulReport}
use Rattle.ppp_replay.specs.Run.{BareEnds, BeginsFull, Ends, FullEnds, InputEnds, IsBadAt, IsBadInput, IsGoodInput, IsInputFault, IsStatusOf, IsTooLong, ReadsInput, Replays, WritesFault, size_fault, status_of}
use Rattle.ppp_replay.specs.declared.run.Ending.{Ending}
use Rattle.ppp_replay.specs.declared.run.Ending.TheVariants as ending
use Rattle.ppp_replay.specs.declared.run.Task.{Task}
use Rattle.ppp_replay.specs.declared.run.Task.TheVariants as task

-- ---- a trace is no other input

differ : (x y : ℕ) → x ≡ y → x ≡ 98 → y ≡ 102 → ⊥
differ x y e p q = absurd (omega arith)

first_octet : (xs ys : List ℕ) → codes "bare" ++ xs ≡ codes "full" ++ ys → ⊥
first_octet xs ys e = differ (get_or (codes "bare" ++ xs) 0 0) (get_or (codes "full" ++ ys) 0 0) (ap (λ l. get_or l 0 0) e) refl refl

pub trace_not_full : (octets : List ℕ) (steps : List BareStep) → IsBareTrace octets steps → BeginsFull octets → ⊥
trace_not_full octets steps h full = elim h.text [
  | inl is ↦ first_octet _ full.0 (sym is ∙ full.1)
  | inr is ↦ first_octet _ full.0 (sym is ∙ full.1)
]

pub trace_no_fault : (octets : List ℕ) (steps : List BareStep) (bad : BadTrace) → IsBareTrace octets steps → IsInputFault octets bad → ⊥
trace_no_fault octets steps bad h fault = elim fault [
  | inl long ↦ absurd (omega (arith, long.0, h.few, trace_is_short octets steps h))
  | inr other ↦ elim other [
    | inl first ↦ no_fault octets steps bad h first.2
    | inr full ↦ trace_not_full octets steps h full.1
  ]
]

-- ---- what was read, and all there was

rest_of : (all octets : List ℕ) (left : Option (List ℕ)) → Consumes (Some all) left octets → (rest : List ℕ) × (all ≡ octets ++ rest) × (IsAtEnd left → rest ≡ [])
rest_of all octets None given = absurd given
rest_of all octets (Some xs) given = (xs, given, λ e. e)

pub whole_is : (old new : SourceState) (all octets : List ℕ) → GivesAll old new octets → old.left ≡ Some all → octets ≡ all
whole_is old new all octets gives known =
    let given : Consumes (Some all) new.left octets = rw known at gives.given.consumed in
    let rest = rest_of all octets new.left given in
    sym (append-nil octets) ∙ ap (λ xs. octets ++ xs) (sym (rest.2 gives.end)) ∙ sym rest.1

-- what was read is all there was, or its front and too long
record Known (all octets : List ℕ) : Type 0 where
  rest : List ℕ
  is : all ≡ octets ++ rest
  enough : (rest ≡ []) ⊎ (MOST_OCTETS < length octets)

known_is : (old new : SourceState) (all octets : List ℕ) → ReadsInput old new octets → old.left ≡ Some all → Known all octets
known_is old new all octets read known =
    let given : Consumes (Some all) new.left octets = rw known at read.given.consumed in
    let rest = rest_of all octets new.left given in
    record { rest = rest.0; is = rest.1; enough = elim read.enough [ inl end ↦ inl (rest.2 end) | inr long ↦ inr long ] }

-- a replay's input is all there was
pub replayed : (end : Ending) (old new : SourceState) (before after : SinkState) (all : List ℕ) → Replays end old new before after → old.left ≡ Some all
    → (length all ≤ MOST_OCTETS) × InputEnds end all before after
replayed end old new before after all r known =
    let same : r.octets ≡ all = whole_is old new all r.octets r.all known in
    (subst (λ o. length o ≤ MOST_OCTETS) same r.small, subst (λ o. InputEnds end o before after) same r.ends)

too_long : (old new : SourceState) (before after : SinkState) (all : List ℕ) → IsTooLong old new before after → old.left ≡ Some all → MOST_OCTETS < length all
too_long old new before after all t known =
    let given : Consumes (Some all) new.left t.octets = rw known at t.given.consumed in
    let rest = rest_of all t.octets new.left given in
    omega (arith, t.long, ap length rest.1, length-append t.octets rest.0)

bad_of : (all : List ℕ) (bad : BadTrace) → IsInputFault all bad → IsBadInput all
bad_of all bad fault = (λ steps trace. trace_no_fault all steps bad trace fault, (bad, fault))

refused_input : (before after : SinkState) (all : List ℕ) → length all ≤ MOST_OCTETS → InputEnds ending.Refused all before after → IsBadInput all
refused_input before after all small ends = elim ends [
  | inl full ↦ bad_of all full.1.0 (inr (inr (small, full.0, full.1.1)))
  | inr bare ↦ bad_of all bare.1.1.0 (inr (inl (small, bare.0, bare.1.1.1)))
]

done_input : (before after : SinkState) (all : List ℕ) → InputEnds ending.Done all before after → IsGoodInput all
done_input before after all ends = elim ends [
  | inl full ↦ inr (full.1.0, full.1.1)
  | inr bare ↦ inl (bare.1.0, bare.1.1)
]

failed_input : (before after : SinkState) (all : List ℕ) → InputEnds ending.SinkFailed all before after → IsGoodInput all
failed_input before after all ends = elim ends [
  | inl full ↦ inr (full.1.0, full.1.1)
  | inr bare ↦ inl (bare.1.0, bare.1.1)
]

-- what an ending says of octets that were read to the source's end
read_rests : (octets : List ℕ) (before after : SinkState) → InputEnds ending.NoMemory octets before after → Rests before after
read_rests octets before after ends = elim ends [
  | inl full ↦ full.1
  | inr bare ↦ bare.1
]

no_such : (e : Ending) (octets : List ℕ) (before after : SinkState) → (FullEnds e octets before after → ⊥) → (BareEnds e octets before after → ⊥) → InputEnds e octets before after → ⊥
no_such e octets before after f b ends = elim ends [
  | inl full ↦ f full.1
  | inr bare ↦ b bare.1
]

pub read_ends : {old new : SourceState} (before after : SinkState) (e : Ending) (octets : List ℕ) → GivesAll old new octets → length octets ≤ MOST_OCTETS
    → InputEnds e octets before after → Ends (Some task.Replay) e old new before after
read_ends before after ending.Done octets all small ends = record { octets = octets; all = all; small = small; ends = ends }
read_ends before after ending.SinkFailed octets all small ends = record { octets = octets; all = all; small = small; ends = ends }
read_ends before after ending.Refused octets all small ends = inl (record { octets = octets; all = all; small = small; ends = ends })
read_ends before after ending.NoMemory octets all small ends = (all.given.sound, read_rests octets before after ends)
read_ends before after ending.OtherWords octets all small ends = absurd (no_such ending.OtherWords octets before after (λ x. x) (λ x. x) ends)
read_ends before after ending.SourceFailed octets all small ends = absurd (no_such ending.SourceFailed octets before after (λ x. x) (λ x. x) ends)

-- ---- tests and what they tell

pub not_full : (b : Bool) (P : Type 0) → (P → IsTrue b) → b ≡ false → P → ⊥
not_full true P f e p = absurd (cc e)
not_full false P f e p = absurd (cc (f p))

pub either_way : (b : Bool) (P Q : Type 0) → OnTrue b P → OnFalse b Q → P ⊎ Q
either_way true P Q p q = inl p
either_way false P Q p q = inr q

bad_grows : (all octets : List ℕ) (n : ℕ) → Known all octets → IsBadAt octets n → IsBadAt all n
bad_grows all octets n k bad = elim k.enough [
  | inl none ↦ let same : octets ≡ all = sym (append-nil octets) ∙ ap (λ xs. octets ++ xs) (sym none) ∙ sym k.is in subst (λ o. IsBadAt o n) same bad
  | inr long ↦ elim bad [
    | inl size ↦ inl (omega (arith, size.0, ap length k.is, length-append octets k.rest), size.1)
    | inr line ↦ absurd (omega (arith, line.0, long))
  ]
]

-- what an ending says of all that the source held
pub complete_of : (t : Option Task) (e : Ending) (old new : SourceState) (before after : SinkState) (all : List ℕ) → Ends t e old new before after
    → old.left ≡ Some all → IsStatusOf t all (status_of e)
complete_of None ending.OtherWords old new before after all ends known = refl
complete_of None ending.Done old new before after all ends known = absurd ends
complete_of None ending.Refused old new before after all ends known = absurd ends
complete_of None ending.NoMemory old new before after all ends known = absurd ends
complete_of None ending.SourceFailed old new before after all ends known = absurd ends
complete_of None ending.SinkFailed old new before after all ends known = absurd ends
complete_of (Some task.Replay) ending.OtherWords old new before after all ends known = absurd ends
complete_of (Some task.Replay) ending.NoMemory old new before after all ends known = inl refl
complete_of (Some task.Replay) ending.SourceFailed old new before after all ends known = inr (inl refl)
complete_of (Some task.Replay) ending.Refused old new before after all ends known = elim ends [
  | inl read ↦ let r = replayed ending.Refused old new before after all read known in inr (inr (inl (refl, refused_input before after all r.0 r.1)))
  | inr long ↦ inr (inr (inl (refl, bad_of all size_fault (inl (too_long old new before after all long known, refl)))))
]
complete_of (Some task.Replay) ending.Done old new before after all ends known =
    let r = replayed ending.Done old new before after all ends known in inr (inr (inr (inl refl, done_input before after all r.1)))
complete_of (Some task.Replay) ending.SinkFailed old new before after all ends known =
    let r = replayed ending.SinkFailed old new before after all ends known in inr (inr (inr (inr refl, failed_input before after all r.1)))
complete_of (Some task.Check) ending.OtherWords old new before after all ends known = absurd ends
complete_of (Some task.Check) ending.NoMemory old new before after all ends known = inl refl
complete_of (Some task.Check) ending.SourceFailed old new before after all ends known = inr (inl refl)
complete_of (Some task.Check) ending.Refused old new before after all ends known =
    inr (inr (inl (refl, (ends.line, bad_grows all ends.octets ends.line (known_is old new all ends.octets ends.read known) ends.bad))))
complete_of (Some task.Check) ending.Done old new before after all ends known =
    let same : ends.octets ≡ all = whole_is old new all ends.octets ends.read.all known in
    inr (inr (inr (inl refl, subst (λ o. length o ≤ MOST_OCTETS) same ends.read.small, subst (λ o. IsLawfulReport o) same ends.read.lawful)))
complete_of (Some task.Check) ending.SinkFailed old new before after all ends known =
    let same : ends.octets ≡ all = whole_is old new all ends.octets ends.read.all known in
    inr (inr (inr (inr refl, subst (λ o. length o ≤ MOST_OCTETS) same ends.read.small, subst (λ o. IsLawfulReport o) same ends.read.lawful)))
complete_of (Some (task.Make seed links steps)) ending.OtherWords old new before after all ends known = absurd ends
complete_of (Some (task.Make seed links steps)) ending.NoMemory old new before after all ends known = inl refl
complete_of (Some (task.Make seed links steps)) ending.SourceFailed old new before after all ends known = absurd ends.1
complete_of (Some (task.Make seed links steps)) ending.Refused old new before after all ends known = absurd ends.1
complete_of (Some (task.Make seed links steps)) ending.Done old new before after all ends known = inr (inl refl)
complete_of (Some (task.Make seed links steps)) ending.SinkFailed old new before after all ends known = inr (inr refl)

-- ---- a bare trace has no fault

pub fault_no_trace : (octets : List ℕ) (steps : List BareStep) (bad : BadTrace) → IsBareTrace octets steps → FirstFault octets bad → ⊥
fault_no_trace octets steps bad h fault = no_fault octets steps bad h fault
