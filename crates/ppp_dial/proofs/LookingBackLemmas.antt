-- What looking back gives, by places and by parts.
use Rattle.std.proofs.Common.{ℕ, ◌+◌, ◌≡◌, ◌||◌, Bool, true, false, cond, List, [], ◌∷◌, ◌++◌, All, count_by, refl, arith, ap, ◌∙◌}
use Rattle.std.proofs.lemmas.List.Elements.{All-head, All-tail}
use Rattle.std.proofs.lemmas.List.Sums.{sum_by-cons}
use Rattle.ppp_dial.specs.declared.call.CallKind.{CallKind}
use Rattle.ppp_dial.specs.declared.call.CallKind.TheVariants.{Start, Wake, Hup, Tick, SessionOver, Stop}
use Rattle.ppp_dial.specs.declared.now.DialNow.{DialNow}
use Rattle.ppp_dial.specs.declared.now.DialNow.TheVariants.{Nothing}
use Rattle.ppp_dial.specs.Happened.{Happened}
use Rattle.ppp_dial.specs.InPlace.{is_failure, is_success}
use Rattle.ppp_dial.specs.LookingBack.{SoFar, failures_in, failures_with, is_nothing, is_stop, is_stopped_in, last_in, so_far}

pub last-parts : (before : SoFar) (later earlier : List Happened) → last_in before (later ++ earlier) ≡ last_in (so_far before earlier) later
last-parts before [] earlier = refl
last-parts before (h ∷ later) earlier = ap (λ (l : DialNow × ℕ). cond (is_nothing h.answer) l (h.answer, h.call.at)) (last-parts before later earlier)

pub failures-parts : (before : SoFar) (later earlier : List Happened) → failures_in before (later ++ earlier) ≡ failures_in (so_far before earlier) later
failures-parts before [] earlier = refl
failures-parts before (h ∷ later) earlier = ap (failures_with h.call.kind) (failures-parts before later earlier)

pub stopped-parts : (before : SoFar) (later earlier : List Happened) → is_stopped_in before (later ++ earlier) ≡ is_stopped_in (so_far before earlier) later
stopped-parts before [] earlier = refl
stopped-parts before (h ∷ later) earlier = ap (λ (b : Bool). is_stop h.call.kind || b) (stopped-parts before later earlier)

abbrev pub made_of : DialNow × ℕ → ℕ → Bool → SoFar
made_of last failures stopped = record { last = last; failures = failures; stopped = stopped }

pub same_so_far : (a b : DialNow × ℕ) (m n : ℕ) (s t : Bool) → a ≡ b → m ≡ n → s ≡ t → made_of a m s ≡ made_of b n t
same_so_far a b m n s t ea en es =
    ap (λ (x : DialNow × ℕ). made_of x m s) ea ∙ ap (λ (x : ℕ). made_of b x s) en ∙ ap (λ (x : Bool). made_of b n x) es

pub seen-parts : (before : SoFar) (later earlier : List Happened) → so_far before (later ++ earlier) ≡ so_far (so_far before earlier) later
seen-parts before later earlier =
    same_so_far _ _ _ _ _ _ (last-parts before later earlier) (failures-parts before later earlier) (stopped-parts before later earlier)

nothing_is : (answer : DialNow) → answer ≡ Nothing → is_nothing answer ≡ true
nothing_is answer e = ap is_nothing e

pub last-none : (before : SoFar) (calls : List Happened) → All (λ (x : Happened). x.answer ≡ Nothing) calls → last_in before calls ≡ before.last
last-none before [] all = refl
last-none before (h ∷ calls) all =
    ap (λ (b : Bool). cond b (last_in before calls) (h.answer, h.call.at)) (nothing_is h.answer (All-head (λ (x : Happened). x.answer ≡ Nothing) h calls all))
    ∙ last-none before calls (All-tail (λ (x : Happened). x.answer ≡ Nothing) h calls all)

pub last-at : (before : SoFar) (later earlier : List Happened) (h : Happened) → is_nothing h.answer ≡ false → All (λ (x : Happened). x.answer ≡ Nothing) later
    → last_in before (later ++ h ∷ earlier) ≡ (h.answer, h.call.at)
last-at before later earlier h is all =
    last-parts before later (h ∷ earlier) ∙ last-none (so_far before (h ∷ earlier)) later all
    ∙ ap (λ (b : Bool). cond b (last_in before earlier) (h.answer, h.call.at)) is

count_by-cons : (p : Happened → Bool) (x : Happened) (xs : List Happened) → count_by p (x ∷ xs) ≡ cond (p x) 1 0 + count_by p xs
count_by-cons p x xs = sum_by-cons (λ y. cond (p y) 1 0) x xs

-- one more call that is no success
one_more : (kind : CallKind) (n : ℕ) → is_success kind ≡ false → failures_with kind n ≡ n + cond (is_failure kind) 1 0
one_more Start n e = omega arith
one_more Wake n e = omega arith
one_more Hup n e = omega arith
one_more Tick n e = omega arith
one_more (SessionOver end) n e = grind arith
one_more Stop n e = omega arith

pub failures-none : (before : SoFar) (calls : List Happened) → All (λ (x : Happened). is_success x.call.kind ≡ false) calls
    → failures_in before calls ≡ before.failures + count_by (λ (x : Happened). is_failure x.call.kind) calls
failures-none before [] all = omega arith
failures-none before (h ∷ calls) all =
    let first : is_success h.call.kind ≡ false = All-head (λ (x : Happened). is_success x.call.kind ≡ false) h calls all in
    let rest : failures_in before calls ≡ before.failures + count_by (λ (x : Happened). is_failure x.call.kind) calls =
    failures-none before calls (All-tail (λ (x : Happened). is_success x.call.kind ≡ false) h calls all)
    in
    omega (arith, one_more h.call.kind (failures_in before calls) first, rest, count_by-cons (λ (x : Happened). is_failure x.call.kind) h calls)

cleared : (kind : CallKind) (n : ℕ) → is_success kind ≡ true → failures_with kind n ≡ 0
cleared Start n e = absurd (cc e)
cleared Wake n e = absurd (cc e)
cleared Hup n e = absurd (cc e)
cleared Tick n e = absurd (cc e)
cleared (SessionOver end) n e = ap (λ (b : Bool). cond b 0 (n + 1)) e
cleared Stop n e = absurd (cc e)

pub failures-at : (before : SoFar) (later earlier : List Happened) (h : Happened) → is_success h.call.kind ≡ true
    → All (λ (x : Happened). is_success x.call.kind ≡ false) later
    → failures_in before (later ++ h ∷ earlier) ≡ count_by (λ (x : Happened). is_failure x.call.kind) later
failures-at before later earlier h is all =
    omega (
      arith,
      failures-parts before later (h ∷ earlier),
      failures-none (so_far before (h ∷ earlier)) later all,
      cleared h.call.kind (failures_in before earlier) is,
    )

pub stopped-none : (before : SoFar) (calls : List Happened) → All (λ (x : Happened). is_stop x.call.kind ≡ false) calls → is_stopped_in before calls ≡ before.stopped
stopped-none before [] all = refl
stopped-none before (h ∷ calls) all =
    ap (λ (b : Bool). b || is_stopped_in before calls) (All-head (λ (x : Happened). is_stop x.call.kind ≡ false) h calls all)
    ∙ stopped-none before calls (All-tail (λ (x : Happened). is_stop x.call.kind ≡ false) h calls all)

or_true : (b : Bool) → (b || true) ≡ true
or_true true = refl
or_true false = refl

stays_stopped : (before : SoFar) (calls : List Happened) → before.stopped ≡ true → is_stopped_in before calls ≡ true
stays_stopped before [] e = e
stays_stopped before (h ∷ calls) e = ap (λ (b : Bool). is_stop h.call.kind || b) (stays_stopped before calls e) ∙ or_true (is_stop h.call.kind)

pub stopped-at : (before : SoFar) (later earlier : List Happened) (h : Happened) → h.call.kind ≡ Stop → is_stopped_in before (later ++ h ∷ earlier) ≡ true
stopped-at before later earlier h is =
    stopped-parts before later (h ∷ earlier)
    ∙ stays_stopped (so_far before (h ∷ earlier)) later (ap (λ (kind : CallKind). is_stop kind || is_stopped_in before earlier) is)
