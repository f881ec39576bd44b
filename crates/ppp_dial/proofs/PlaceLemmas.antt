-- The law at one place, and in parts.
use Rattle.std.proofs.Common.{ℕ, ◌+◌, ◌*◌, ◌≤◌, ◌≡◌, ◌≢◌, ◌||◌, Bool, true, false, cond, not, Option, Some, None, is_some, List, [], ◌∷◌, ◌++◌, inl, inr, refl, arith, sym, subst, ap, ◌∙◌}
use Rattle.std.specs.Prelude.{IsSome, ◌⊎◌, is_none}
use Rattle.std.proofs.lemmas.Bool.{or_cases, or_parts, and_parts, not-true, leb-true, eqb-true, eqb-false}
use Rattle.std.proofs.lemmas.Bool.Decides.{nat_tests}
use Rattle.ppp_dial.specs.declared.call.CallKind.{CallKind}
use Rattle.ppp_dial.specs.declared.call.CallKind.TheVariants.{Start, Wake, Hup, Tick, SessionOver, Stop}
use Rattle.ppp_dial.specs.declared.now.DialNow.{DialNow}
use Rattle.ppp_dial.specs.declared.now.DialNow.TheVariants.{Nothing, Begin, Hold, Wait, Finish}
use Rattle.ppp_dial.specs.declared.policy.DialPolicy.{DialPolicy}
use Rattle.ppp_dial.specs.declared.session_end.SessionEnd.{SessionEnd}
use Rattle.ppp_dial.specs.DialLaw.{DialLaw, MayCome, is_allowed, is_passed_over, is_status, last_status, is_time_at, is_woken_by, would_begin, leads_to_hold, needs_no_hold}
use Rattle.ppp_dial.specs.InPlace.{EndsWithHold, EndsWithoutHold, Follows}
use Rattle.ppp_dial.specs.Happened.{DialCall, Happened, asked}
use Rattle.ppp_dial.specs.LookingBack.{SoFar, so_far, is_stopped_in, is_nothing, was_begun, hold_since, was_to_wait, status_of, finished_with, last_in, is_stop, failures_with}
use Rattle.ppp_timer.specs.Due.{has_come}
use Rattle.ppp_dial.proofs.Allowed.{allowed_is_rule}
use Rattle.ppp_dial.proofs.LookingBackLemmas.{made_of, same_so_far, seen-parts}

pub law-split : (policy : DialPolicy) (before : SoFar) (later earlier : List Happened) → DialLaw policy before (later ++ earlier)
    → DialLaw policy (so_far before earlier) later × DialLaw policy before earlier
law-split policy before [] earlier l = (tt, l)
law-split policy before (h ∷ later) earlier l =
    let r = law-split policy before later earlier l.1 in
    ((subst (λ (s : SoFar). is_allowed policy s h.call h.answer ≡ true) (seen-parts before later earlier) l.0, r.0), r.1)

pub law-join : (policy : DialPolicy) (before : SoFar) (later earlier : List Happened) → DialLaw policy (so_far before earlier) later → DialLaw policy before earlier
    → DialLaw policy before (later ++ earlier)
law-join policy before [] earlier l rest = rest
law-join policy before (h ∷ later) earlier l rest =
    (subst (λ (s : SoFar). is_allowed policy s h.call h.answer ≡ true) (sym (seen-parts before later earlier)) l.0, law-join policy before later earlier l.1 rest)

pub allowed-at : (policy : DialPolicy) (before : SoFar) (later earlier : List Happened) (h : Happened) → DialLaw policy before (later ++ h ∷ earlier)
    → is_allowed policy (so_far before earlier) h.call h.answer ≡ true
allowed-at policy before later earlier h l = (law-split policy before later (h ∷ earlier) l).1.0

-- by which last answer a call can follow
new_follows : (policy : DialPolicy) (last : DialNow × ℕ) (at : ℕ) → is_nothing last.0 ≡ true → Follows policy last Start at
new_follows policy (Nothing, since) at e = refl
new_follows policy (Begin, since) at e = absurd (cc e)
new_follows policy (Hold ms, since) at e = absurd (cc e)
new_follows policy (Wait, since) at e = absurd (cc e)
new_follows policy (Finish status, since) at e = absurd (cc e)

hup_follows : (policy : DialPolicy) (last : DialNow × ℕ) (at : ℕ) → is_some (hold_since last) ≡ true → Follows policy last Hup at
hup_follows policy (Nothing, since) at e = absurd (cc e)
hup_follows policy (Begin, since) at e = absurd (cc e)
hup_follows policy (Hold ms, since) at e = inl refl
hup_follows policy (Wait, since) at e = absurd (cc e)
hup_follows policy (Finish status, since) at e = absurd (cc e)

tick_follows : (policy : DialPolicy) (last : DialNow × ℕ) (at : ℕ) → has_come at (hold_since last) ≡ true → Follows policy last Tick at
tick_follows policy (Nothing, since) at e = absurd (cc e)
tick_follows policy (Begin, since) at e = absurd (cc e)
tick_follows policy (Hold ms, since) at e = inr (refl, leb-true (since + ms) at e)
tick_follows policy (Wait, since) at e = absurd (cc e)
tick_follows policy (Finish status, since) at e = absurd (cc e)

needs_none : (policy : DialPolicy) (end : SessionEnd) → needs_no_hold policy end ≡ true → EndsWithoutHold policy (SessionOver end)
needs_none policy end e = elim (or_cases _ _ e) [ inl idle ↦ inl (eqb-true end.cause 12 idle) | inr zero_s ↦ inr (eqb-true policy.holdoff_s 0 zero_s) ]

over_follows : (policy : DialPolicy) (last : DialNow × ℕ) (end : SessionEnd) (at : ℕ) → was_begun last ≡ true → needs_no_hold policy end ≡ true
    → Follows policy last (SessionOver end) at
over_follows policy (Nothing, since) end at e none = absurd (cc e)
over_follows policy (Begin, since) end at e none = needs_none policy end none
over_follows policy (Hold ms, since) end at e none = absurd (cc e)
over_follows policy (Wait, since) end at e none = absurd (cc e)
over_follows policy (Finish status, since) end at e none = absurd (cc e)

wake_follows : (policy : DialPolicy) (last : DialNow × ℕ) (at : ℕ) → was_to_wait last ≡ true → Follows policy last Wake at
wake_follows policy (Nothing, since) at e = absurd (cc e)
wake_follows policy (Begin, since) at e = absurd (cc e)
wake_follows policy (Hold ms, since) at e = absurd (cc e)
wake_follows policy (Wait, since) at e = refl
wake_follows policy (Finish status, since) at e = absurd (cc e)

pub begun : (last : DialNow × ℕ) → was_begun last ≡ true → last.0 ≡ Begin
begun (Nothing, since) e = absurd (cc e)
begun (Begin, since) e = refl
begun (Hold ms, since) e = absurd (cc e)
begun (Wait, since) e = absurd (cc e)
begun (Finish status, since) e = absurd (cc e)

time_follows : (kind : CallKind) (policy : DialPolicy) (s : SoFar) (at : ℕ) → is_time_at kind policy s at ≡ true
    → Follows policy s.last kind at × (kind ≢ Wake)
time_follows Start policy s at e = (new_follows policy s.last at e, λ w. cc w)
time_follows Wake policy s at e = absurd (cc e)
time_follows Hup policy s at e = (hup_follows policy s.last at e, λ w. cc w)
time_follows Tick policy s at e = (tick_follows policy s.last at e, λ w. cc w)
time_follows (SessionOver end) policy s at e =
    let a = and_parts _ _ e in (over_follows policy s.last end at (and_parts _ _ a.0).0 a.1, λ w. cc w)
time_follows Stop policy s at e = absurd (cc e)

woken_follows : (kind : CallKind) (policy : DialPolicy) (s : SoFar) (at : ℕ) → is_woken_by kind s ≡ true → Follows policy s.last kind at × (kind ≡ Wake)
woken_follows Start policy s at e = absurd (cc e)
woken_follows Wake policy s at e = (wake_follows policy s.last at e, refl)
woken_follows Hup policy s at e = absurd (cc e)
woken_follows Tick policy s at e = absurd (cc e)
woken_follows (SessionOver end) policy s at e = absurd (cc e)
woken_follows Stop policy s at e = absurd (cc e)

not_demand : (demand : Bool) → not demand ≡ true → demand ≡ true → ⊥
not_demand true e d = cc e
not_demand false e d = cc d

pub beginning_follows : (policy : DialPolicy) (s : SoFar) (call : DialCall) → would_begin policy s call ≡ true
    → Follows policy s.last call.kind call.at × (policy.demand ≡ true → call.kind ≡ Wake)
beginning_follows policy s call e = elim (or_cases _ _ e) [
  | inl woken ↦ (let w = woken_follows call.kind policy s call.at woken in (w.0, λ d. w.1))
  | inr time ↦ (
      let b = and_parts _ _ time in ((time_follows call.kind policy s call.at b.0).0, λ d. absurd (not_demand policy.demand b.1 d))
      )
]

pub attempt_follows : (policy : DialPolicy) (s : SoFar) (call : DialCall) → is_allowed policy s call Begin ≡ true
    → Follows policy s.last call.kind call.at × (1024 ≤ call.room) × (policy.demand ≡ true → call.kind ≡ Wake)
attempt_follows policy s call e =
    let a = and_parts _ _ e in
    let f = beginning_follows policy s call a.0 in (f.0, leb-true 1024 call.room a.1, f.1)

pub wait_follows : (policy : DialPolicy) (s : SoFar) (call : DialCall) → is_allowed policy s call Wait ≡ true
    → Follows policy s.last call.kind call.at × (policy.demand ≡ true) × (call.kind ≢ Wake)
wait_follows policy s call e =
    let a = and_parts _ _ e in
    let t = time_follows call.kind policy s call.at a.0 in (t.0, a.1, t.1)

needs_one : (policy : DialPolicy) (end : SessionEnd) → not (needs_no_hold policy end) ≡ true → EndsWithHold policy (SessionOver end)
needs_one policy end e =
    let a = or_parts _ _ (not-true _ e) in
    (λ idle. eqb-false end.cause 12 a.0 idle, grind (arith, nat_tests, a.1))

hold_by : (kind : CallKind) (policy : DialPolicy) (s : SoFar) → leads_to_hold kind policy s ≡ true → EndsWithHold policy kind × (s.last.0 ≡ Begin)
hold_by Start policy s e = absurd (cc e)
hold_by Wake policy s e = absurd (cc e)
hold_by Hup policy s e = absurd (cc e)
hold_by Tick policy s e = absurd (cc e)
hold_by (SessionOver end) policy s e =
    let a = and_parts _ _ e in (needs_one policy end a.1, begun s.last (and_parts _ _ a.0).0)
hold_by Stop policy s e = absurd (cc e)

pub hold_follows : (policy : DialPolicy) (s : SoFar) (call : DialCall) (ms : ℕ) → is_allowed policy s call (Hold ms) ≡ true
    → EndsWithHold policy call.kind × (s.last.0 ≡ Begin) × (ms ≡ policy.holdoff_s * 1000)
hold_follows policy s call ms e =
    let a = and_parts _ _ e in
    let h = hold_by call.kind policy s a.0 in (h.0, h.1, eqb-true ms (policy.holdoff_s * 1000) a.1)

pub ended_under : (under : Bool) (how : Option ℕ) (status : ℕ) → is_status status (cond under how None) ≡ true → under ≡ true
ended_under true how status e = refl
ended_under false how status e = absurd (cc e)

-- a session's end is allowed only while an attempt is under way
over_may : (policy : DialPolicy) (s : SoFar) (end : SessionEnd) (at room : ℕ) (answer : DialNow)
    → is_allowed policy s (asked (SessionOver end) at room) answer ≡ true → was_begun s.last ≡ true
over_may policy s end at room Nothing e = absurd (cc e)
over_may policy s end at room Begin e = (and_parts _ _ (and_parts _ _ (and_parts _ _ (and_parts _ _ e).0).0).0).0
over_may policy s end at room (Hold ms) e = (and_parts _ _ (and_parts _ _ (and_parts _ _ e).0).0).0
over_may policy s end at room Wait e = (and_parts _ _ (and_parts _ _ (and_parts _ _ e).0).0).0
over_may policy s end at room (Finish status) e = elim (or_cases _ _ e) [
  | inl by_end ↦ ended_under (was_begun s.last) (last_status policy s end) status by_end
  | inr by_room ↦ (and_parts _ _ (and_parts _ _ (and_parts _ _ (and_parts _ _ (and_parts _ _ by_room).0).0).0).0).0
]

pub may_by_law : (policy : DialPolicy) (s : SoFar) (kind : CallKind) (at room : ℕ) (answer : DialNow)
    → is_allowed policy s (asked kind at room) answer ≡ true → MayCome kind s
may_by_law policy s Start at room answer e = tt
may_by_law policy s Wake at room answer e = tt
may_by_law policy s Hup at room answer e = tt
may_by_law policy s Tick at room answer e = tt
may_by_law policy s (SessionOver end) at room answer e = over_may policy s end at room answer e
may_by_law policy s Stop at room answer e = tt

after_finish : (policy : DialPolicy) (since status failures : ℕ) (stopped : Bool) (kind : CallKind) (at room : ℕ) (answer : DialNow)
    → is_allowed policy (made_of (Finish status, since) failures stopped) (asked kind at room) answer ≡ true → answer ≡ Nothing
after_finish policy since status failures stopped Start at room answer e = allowed_is_rule Start policy (made_of (Finish status, since) failures stopped) at room answer e
after_finish policy since status failures stopped Wake at room answer e = allowed_is_rule Wake policy (made_of (Finish status, since) failures stopped) at room answer e
after_finish policy since status failures stopped Hup at room answer e = allowed_is_rule Hup policy (made_of (Finish status, since) failures stopped) at room answer e
after_finish policy since status failures stopped Tick at room answer e = allowed_is_rule Tick policy (made_of (Finish status, since) failures stopped) at room answer e
after_finish policy since status failures stopped (SessionOver end) at room answer e =
    absurd (let no : false ≡ true = over_may policy (made_of (Finish status, since) failures stopped) end at room answer e in cc no)
after_finish policy since status failures stopped Stop at room answer e = allowed_is_rule Stop policy (made_of (Finish status, since) failures stopped) at room answer e

finished_stays : (policy : DialPolicy) (last : DialNow × ℕ) (failures : ℕ) (stopped : Bool) (kind : CallKind) (at room : ℕ) (answer : DialNow) (status : ℕ)
    → status_of last ≡ Some status → is_allowed policy (made_of last failures stopped) (asked kind at room) answer ≡ true → answer ≡ Nothing
finished_stays policy (Nothing, since) failures stopped kind at room answer status is e = absurd (cc is)
finished_stays policy (Begin, since) failures stopped kind at room answer status is e = absurd (cc is)
finished_stays policy (Hold ms, since) failures stopped kind at room answer status is e = absurd (cc is)
finished_stays policy (Wait, since) failures stopped kind at room answer status is e = absurd (cc is)
finished_stays policy (Finish how, since) failures stopped kind at room answer status is e = after_finish policy since how failures stopped kind at room answer e

pub nothing_follows : (policy : DialPolicy) (s : SoFar) (call : DialCall) (answer : DialNow) (status : ℕ)
    → status_of s.last ≡ Some status → is_allowed policy s call answer ≡ true → answer ≡ Nothing
nothing_follows policy s call answer status is e = finished_stays policy s.last s.failures s.stopped call.kind call.at call.room answer status is e

-- a call that was passed over, and isn't a first stop, leaves what looking back gives
left_alone : (policy : DialPolicy) (s : SoFar) (kind : CallKind) (at room : ℕ) (answer : DialNow) → answer ≡ Nothing → (kind ≡ Stop → s.stopped ≡ true)
    → is_allowed policy s (asked kind at room) answer ≡ true → (failures_with kind s.failures ≡ s.failures) × ((is_stop kind || s.stopped) ≡ s.stopped)
left_alone policy s Start at room answer is again e = (refl, refl)
left_alone policy s Wake at room answer is again e = (refl, refl)
left_alone policy s Hup at room answer is again e = (refl, refl)
left_alone policy s Tick at room answer is again e = (refl, refl)
left_alone policy s (SessionOver end) at room answer is again e =
    absurd (let never : false ≡ true = subst (λ (a : DialNow). is_allowed policy s (asked (SessionOver end) at room) a ≡ true) is e in cc never)
left_alone policy s Stop at room answer is again e = (refl, sym (again refl))

unseen : (policy : DialPolicy) (before : SoFar) (earlier : List Happened) (h : Happened) → h.answer ≡ Nothing
    → (h.call.kind ≡ Stop → is_stopped_in before earlier ≡ true)
    → is_allowed policy (so_far before earlier) h.call h.answer ≡ true → so_far before (h ∷ earlier) ≡ so_far before earlier
unseen policy before earlier h is again e =
    let s : SoFar = so_far before earlier in
    let left = left_alone policy s h.call.kind h.call.at h.call.room h.answer is again e in
    same_so_far _ _ _ _ _ _ (ap (λ (a : DialNow). cond (is_nothing a) s.last (a, h.call.at)) is) left.0 left.1

-- what is passed over is told by the last answer alone
passed_by_last : (kind : CallKind) (at : ℕ) (s t : SoFar) → s.last ≡ t.last → is_passed_over kind s at ≡ is_passed_over kind t at
passed_by_last Start at s t e = ap (λ (l : DialNow × ℕ). not (is_nothing l.0)) e
passed_by_last Wake at s t e = ap (λ (l : DialNow × ℕ). not (was_to_wait l)) e
passed_by_last Hup at s t e = ap (λ (l : DialNow × ℕ). is_none (hold_since l)) e
passed_by_last Tick at s t e = ap (λ (l : DialNow × ℕ). not (has_come at (hold_since l))) e
passed_by_last (SessionOver end) at s t e = refl
passed_by_last Stop at s t e = ap (λ (l : DialNow × ℕ). was_begun l || is_some (status_of l)) e

-- once the link has finished, only that counts
finished_list : (policy : DialPolicy) (s t : SoFar) (status : ℕ) (later : List Happened) → s.last ≡ t.last → status_of s.last ≡ Some status
    → DialLaw policy s later → DialLaw policy t later × (last_in s later ≡ s.last) × (last_in t later ≡ t.last)
finished_list policy s t status [] e is l = (tt, refl, refl)
finished_list policy s t status (x ∷ later) e is l =
    let r = finished_list policy s t status later e is l.1 in
    let none : x.answer ≡ Nothing = nothing_follows policy (so_far s later) x.call x.answer status (ap status_of r.1 ∙ is) l.0 in
    let kept : is_nothing x.answer ≡ true = ap is_nothing none in
    let by_s : is_passed_over x.call.kind (so_far s later) x.call.at ≡ true =
    subst (λ (a : DialNow). is_allowed policy (so_far s later) x.call a ≡ true) none l.0
    in
    let by_t : is_passed_over x.call.kind (so_far t later) x.call.at ≡ true =
    sym (passed_by_last x.call.kind x.call.at (so_far s later) (so_far t later) (r.1 ∙ e ∙ sym r.2)) ∙ by_s
    in (
      (subst (λ (a : DialNow). is_allowed policy (so_far t later) x.call a ≡ true) (sym none) by_t, r.0),
      ap (λ (b : Bool). cond b (last_in s later) (x.answer, x.call.at)) kept ∙ r.1,
      ap (λ (b : Bool). cond b (last_in t later) (x.answer, x.call.at)) kept ∙ r.2,
    )

some_value : (o : Option ℕ) → IsSome o → (n : ℕ) × (o ≡ Some n)
some_value None is = absurd (cc is)
some_value (Some n) is = (n, refl)

out_when_seen : (policy : DialPolicy) (before : SoFar) (later earlier : List Happened) (h : Happened) → h.answer ≡ Nothing
    → (h.call.kind ≡ Stop → is_stopped_in before earlier ≡ true)
    → DialLaw policy before (later ++ h ∷ earlier) → DialLaw policy before (later ++ earlier)
out_when_seen policy before later earlier h is again l =
    let parts = law-split policy before later (h ∷ earlier) l in
    let same : so_far before (h ∷ earlier) ≡ so_far before earlier = unseen policy before earlier h is again parts.1.0 in
    law-join policy before later earlier (subst (λ (s : SoFar). DialLaw policy s later) same parts.0) parts.1.1

out_when_finished : (policy : DialPolicy) (before : SoFar) (later earlier : List Happened) (h : Happened) → h.answer ≡ Nothing
    → IsSome (finished_with (so_far before earlier)) → DialLaw policy before (later ++ h ∷ earlier) → DialLaw policy before (later ++ earlier)
out_when_finished policy before later earlier h is finished l =
    let parts = law-split policy before later (h ∷ earlier) l in
    let kept : last_in before (h ∷ earlier) ≡ last_in before earlier =
    ap (λ (a : DialNow). cond (is_nothing a) (last_in before earlier) (a, h.call.at)) is
    in
    let value = some_value (finished_with (so_far before earlier)) finished in
    law-join policy before later earlier
    (finished_list policy (so_far before (h ∷ earlier)) (so_far before earlier) value.0 later kept (ap status_of kept ∙ value.1) parts.0).0 parts.1.1

is_stop_or_not : (kind : CallKind) → (kind ≡ Stop) ⊎ (kind ≢ Stop)
is_stop_or_not Start = inr (λ e. cc e)
is_stop_or_not Wake = inr (λ e. cc e)
is_stop_or_not Hup = inr (λ e. cc e)
is_stop_or_not Tick = inr (λ e. cc e)
is_stop_or_not (SessionOver end) = inr (λ e. cc e)
is_stop_or_not Stop = inl refl

pub may_be_left_out : (policy : DialPolicy) (before : SoFar) (later earlier : List Happened) (h : Happened) → h.answer ≡ Nothing
    → (h.call.kind ≡ Stop → (is_stopped_in before earlier ≡ true) ⊎ IsSome (finished_with (so_far before earlier)))
    → DialLaw policy before (later ++ h ∷ earlier) → DialLaw policy before (later ++ earlier)
may_be_left_out policy before later earlier h is again l = elim (is_stop_or_not h.call.kind) [
  | inl stop ↦ elim (again stop) [
    | inl stopped ↦ out_when_seen policy before later earlier h is (λ e. stopped) l
    | inr finished ↦ out_when_finished policy before later earlier h is finished l
  ]
  | inr other ↦ out_when_seen policy before later earlier h is (λ e. absurd (other e)) l
]
