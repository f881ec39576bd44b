-- A side that waits too long.
use Rattle.std.proofs.Common.{◌≡◌, ℕ, ◌+◌, ◌≤◌, Bool, true, false, ◌&&◌, ◌||◌, List, [], ◌∷◌, ◌++◌, Option, Some, None, refl, ap, ap₂, ◌∙◌, arith}
use Rattle.std.proofs.lemmas.Bool.Decides.{nat_tests}
use Rattle.ppp_auth.specs.Setting.{PhaseAt, PhaseCall, starts, takes, waits, begun_at, is_late, is_over, is_lost}
use Rattle.ppp_auth.specs.Ends.{TooLate}

over_is : (began now : ℕ) → is_over (Some began) now ≡ true → began + 60000 ≤ now
over_is began now e = grind (arith, nat_tests)

is_over_now : (began now : ℕ) → began + 60000 ≤ now → is_over (Some began) now ≡ true
is_over_now began now long = grind (arith, nat_tests)

both_true : (a b : Bool) → (a && b) ≡ true → (a ≡ true) × (b ≡ true)
both_true true b e = (refl, e)
both_true false b e = absurd cc

or_true : (a : Bool) → (a || true) ≡ true
or_true true = refl
or_true false = refl

late_here : (is_waiting : List PhaseAt → Bool) (c : PhaseAt) (past : List PhaseAt) (call : PhaseCall) (began : Option ℕ) → c.call ≡ call → begun_at past ≡ began
    → is_late call began c.now ≡ true → is_waiting past ≡ true → TooLate is_waiting (c ∷ past)
late_here is_waiting c past (starts pair) began ec eb late w = absurd cc
late_here is_waiting c past (takes protocol p pair) began ec eb late w = absurd cc
late_here is_waiting c past waits None ec eb late w = absurd cc
late_here is_waiting c past waits (Some moment) ec eb late w =
    record { later = []; call = c; earlier = past; began = moment; split = refl; ticks_now = ec; since = eb; long = over_is moment c.now late; waiting = w }

lost_by : (is_waiting : List PhaseAt → Bool) (c : PhaseAt) (past : List PhaseAt) (was : Bool) → (was ≡ true → TooLate is_waiting past)
    → (was || (is_late c.call (begun_at past) c.now && is_waiting past)) ≡ true → TooLate is_waiting (c ∷ past)
lost_by is_waiting c past true before e =
    let h = before refl in
    record { later = c ∷ h.later; call = h.call; earlier = h.earlier; began = h.began; split = ap (λ l. c ∷ l) h.split; ticks_now = h.ticks_now; since = h.since; long = h.long; waiting = h.waiting }
lost_by is_waiting c past false before e =
    let both = both_true (is_late c.call (begun_at past) c.now) (is_waiting past) e in
    late_here is_waiting c past c.call (begun_at past) refl refl both.0 both.1

pub lost_late : (is_waiting : List PhaseAt → Bool) (past : List PhaseAt) → is_lost is_waiting past ≡ true → TooLate is_waiting past
lost_late is_waiting [] e = absurd cc
lost_late is_waiting (c ∷ past) e = lost_by is_waiting c past (is_lost is_waiting past) (λ was. lost_late is_waiting past was) e

lost_on : (is_waiting : List PhaseAt → Bool) (later past : List PhaseAt) → is_lost is_waiting past ≡ true → is_lost is_waiting (later ++ past) ≡ true
lost_on is_waiting [] past e = e
lost_on is_waiting (c ∷ later) past e =
    ap (λ b. b || (is_late c.call (begun_at (later ++ past)) c.now && is_waiting (later ++ past))) (lost_on is_waiting later past e)

pub late_lost : (is_waiting : List PhaseAt → Bool) (past : List PhaseAt) → TooLate is_waiting past → is_lost is_waiting past ≡ true
late_lost is_waiting past h =
    let late : is_late h.call.call (begun_at h.earlier) h.call.now ≡ true =
    ap₂ (λ call began. is_late call began h.call.now) h.ticks_now h.since ∙ is_over_now h.began h.call.now h.long in
    let here : is_lost is_waiting (h.call ∷ h.earlier) ≡ true =
    ap₂ (λ a b. is_lost is_waiting h.earlier || (a && b)) late h.waiting ∙ or_true (is_lost is_waiting h.earlier) in
    ap (λ l. is_lost is_waiting l) h.split ∙ lost_on is_waiting h.later (h.call ∷ h.earlier) here
