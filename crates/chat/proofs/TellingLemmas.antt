-- What a line and a clock tell of the calls of a conversation.
use Rattle.std.proofs.Common.{◌≡◌, ℕ, ◌+◌, ◌≤◌, zero, suc, max, min, List, [], ◌∷◌, ◌++◌, length, map, take, drop, Option, None, Some, IfSome, refl, sym, ap, ◌∙◌, subst, arith, append_assoc, append-nil, length-append}
use Rattle.std.specs.Prelude.{option_map}
use Rattle.std.specs.Io.KnownBytes.{Consumes}
use Rattle.ppp_chat.specs.Event.{heard, tick_at}
use Rattle.ppp_chat.specs.declared.event.Event.{Event}
use Rattle.ppp_outside.specs.Clock.{ClockState, Reads}
use Rattle.ppp_outside.specs.Contents.{GrowsBy, GrowsWhereTold}
use Rattle.ppp_outside.specs.Counts.{last, raised}
use Rattle.ppp_outside.specs.Line.{LineState, ReadsLine, given}
use Rattle.ppp_outside.specs.declared.line_in.LineAnswer.{LineAnswer}
use Rattle.ppp_outside.specs.declared.line_in.LineAnswer.TheVariants as told
use Rattle.ppp_outside.specs.declared.line_in.LineGot.{LineGot}
use Rattle.ppp_outside.specs.declared.line_in.LineGot.TheVariants as got
use Rattle.chat.specs.Heard.{Hears, HearsAll, IsHeard, Listens, ReadsOne, listed, moment}
use Rattle.chat.specs.Telling.{ClockTells, LineTells, answer_for, answers_for}

-- ---- lists that grow

consumes_then : (a b c : Option (List ℕ)) (xs ys : List ℕ) → Consumes a b xs → Consumes b c ys → Consumes a c (xs ++ ys)
consumes_then None b c xs ys p q = tt
consumes_then (Some a) None c xs ys p q = absurd p
consumes_then (Some a) (Some b) None xs ys p q = absurd q
consumes_then (Some a) (Some b) (Some c) xs ys p q = p ∙ ap (λ (l : List ℕ). xs ++ l) q ∙ sym (append_assoc xs ys c)

consumes_none : (a : Option (List ℕ)) → Consumes a a []
consumes_none None = tt
consumes_none (Some a) = refl

grows_then : {A : Type 0} (a b c : Option (List A)) (xs ys : List A) → GrowsBy xs a b → GrowsBy ys b c → GrowsBy (xs ++ ys) a c
grows_then {A = A} None b c xs ys p q = q ∙ ap (λ (o : Option (List A)). option_map (λ kept. kept ++ ys) o) p
grows_then {A = A} (Some a) b c xs ys p q =
    q ∙ ap (λ (o : Option (List A)). option_map (λ kept. kept ++ ys) o) p ∙ ap (λ (l : List A). Some l) (append_assoc a xs ys)

grows_none : {A : Type 0} (a : Option (List A)) → GrowsBy [] a a
grows_none {A = A} None = refl
grows_none {A = A} (Some a) = ap (λ (l : List A). Some l) (sym (append-nil a))

told_then : (a b c : Option (List ℕ)) (xs ys : List ℕ) → GrowsWhereTold xs a b → GrowsWhereTold ys b c → GrowsWhereTold (xs ++ ys) a c
told_then a b None xs ys p q = tt
told_then a None (Some c) xs ys p q = absurd (cc (q))
told_then None (Some b) (Some c) xs ys p q = absurd (cc (p))
told_then (Some a) (Some b) (Some c) xs ys p q = grows_then (Some a) (Some b) (Some c) xs ys p q

told_none : (a : Option (List ℕ)) → GrowsWhereTold [] a a
told_none None = tt
told_none (Some a) = grows_none (Some a)

raised_then : (count m n : ℕ) → raised (raised count m) n ≡ raised count (m + n)
raised_then count m n = omega arith

-- ---- one event

one_told : (answer : LineGot) (buf : List ℕ) (octet : Option ℕ) (old new : LineState) → ReadsLine old new answer buf → IsHeard answer buf octet
    → Consumes old.left new.left (listed octet) × GrowsBy (answer_for octet ∷ []) old.answers new.answers × (new.taken ≡ raised old.taken (length (listed octet)))
    × (new.faults ≡ old.faults) × (new.ends ≡ old.ends)
one_told (got.Got count) buf (Some octet) old new r h =
    (rw h at r.left, rw h at r.answers, rw h at r.taken, r.faults, r.ends)
one_told (got.Got count) buf None old new r h = absurd (nothing count buf r.fits.0 r.fits.1 h)
  where
    nothing : (count : ℕ) (buf : List ℕ) → 1 ≤ count → count ≤ length buf → take count buf ≡ [] → ⊥
    nothing zero buf some fits e = absurd (omega (arith, some))
    nothing (suc count) [] some fits e = absurd (omega (arith, fits))
    nothing (suc count) (octet ∷ buf) some fits e = absurd (cc (e))
one_told got.Quiet buf None old new r h = (r.left, r.answers, r.taken, r.faults, r.ends)
one_told got.Quiet buf (Some octet) old new r h = absurd (cc (h))
one_told got.End buf octet old new r h = absurd h
one_told got.Failed buf octet old new r h = absurd h

heard_cons : (event : Event) (events : List Event) → heard (event ∷ events) ≡ listed event.octet ++ heard events
heard_cons event events = cases event.octet refl
  where
    cases : (o : Option ℕ) → event.octet ≡ o → heard (event ∷ events) ≡ listed event.octet ++ heard events
    cases None e = rw e refl
    cases (Some octet) e = rw e refl

module _ {I C : Type 0} (line : I → LineState) (coming : I → Option LineAnswer) (clock : C → ClockState) where
  line_all : (events : List Event) (before after : I) (earlier later : C) → HearsAll line coming clock events before after earlier later
      → LineTells (line before) (line after) events
  line_all [] before after earlier later h = rw h.0 (record {
    octets = consumes_none (line before).left;
    answers = grows_none (line before).answers;
    taken = omega arith;
    faults = refl;
    ends = refl;
  })
  line_all (event ∷ events) before after earlier later h =
      let one = one_told h.2.answer h.2.read.buf event.octet (line before) (line h.0) h.2.read.reads h.2.heard in
      let rest = line_all events h.0 after h.1 later h.3 in
      record {
        octets = rw (heard_cons event events) (consumes_then (line before).left (line h.0).left (line after).left (listed event.octet) (heard events) one.0 rest.octets);
        answers = grows_then (line before).answers (line h.0).answers (line after).answers (answer_for event.octet ∷ []) (answers_for events) one.1 rest.answers;
        taken =
            rest.taken ∙ ap (λ (n : ℕ). raised n (length (heard events))) one.2
            ∙ raised_then (line before).taken (length (listed event.octet)) (length (heard events))
            ∙ ap (λ (n : ℕ). raised (line before).taken n) (sym (length-append (listed event.octet) (heard events)) ∙ ap length (sym (heard_cons event events)));
        faults = rest.faults ∙ one.3;
        ends = rest.ends ∙ one.4;
      }

  clock_all : (events : List Event) (before after : I) (earlier later : C) → HearsAll line coming clock events before after earlier later
      → ClockTells (clock earlier) (clock later) events
  clock_all [] before after earlier later h = rw h.1 (record { readings = []; moments = refl; told = told_none (clock earlier).readings })
  clock_all (event ∷ events) before after earlier later h =
      let rest = clock_all events h.0 after h.1 later h.3 in
      record {
        readings = h.2.reading ∷ rest.readings;
        moments = rw (h.2.at, rest.moments) refl;
        told = told_then (clock earlier).readings (clock h.1).readings (clock later).readings (h.2.reading ∷ []) rest.readings h.2.clock_read.readings rest.told;
      }

  pub line_tells : (before after : I) (earlier later : C) (calls : List Event) → Listens line coming clock before after earlier later calls
      → LineTells (line before) (line after) (drop 1 calls)
  line_tells before after earlier later calls l = rw l.calls_are (line_all l.events before after l.begun later l.heard)

  pub clock_tells : (before after : I) (earlier later : C) (calls : List Event) → Listens line coming clock before after earlier later calls
      → ClockTells (clock earlier) (clock later) calls
  clock_tells before after earlier later calls l =
      let rest = clock_all l.events before after l.begun later l.heard in
      record {
        readings = l.reading ∷ rest.readings;
        moments = rw l.calls_are (rw rest.moments refl);
        told = told_then (clock earlier).readings (clock l.begun).readings (clock later).readings (l.reading ∷ []) rest.readings l.begins.readings rest.told;
      }
