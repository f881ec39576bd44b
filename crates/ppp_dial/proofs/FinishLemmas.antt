-- Why a link finishes, or goes on after a session.
use Rattle.std.proofs.Common.{ℕ, ◌<◌, ◌≤◌, ◌≡◌, ◌≢◌, ◌||◌, Bool, true, false, cond, not, Some, None, is_none, List, ◌∷◌, inl, inr, ◌⊎◌, refl, arith, sym, subst, ap}
use Rattle.std.proofs.lemmas.Bool.{or_cases, and_parts, not-true, leb-true, eqb-true, ltb-true}
use Rattle.std.specs.Prelude.{◌==◌}
use Rattle.std.proofs.lemmas.Bool.Decides.{nat_tests}
use Rattle.ppp_dial.specs.declared.call.CallKind.{CallKind}
use Rattle.ppp_dial.specs.declared.call.CallKind.TheVariants.{Start, Wake, Hup, Tick, SessionOver, Stop}
use Rattle.ppp_dial.specs.declared.now.DialNow.{DialNow}
use Rattle.ppp_dial.specs.declared.now.DialNow.TheVariants.{Nothing, Begin, Hold, Wait, Finish}
use Rattle.ppp_dial.specs.declared.policy.DialPolicy.{DialPolicy}
use Rattle.ppp_dial.specs.declared.session_end.SessionEnd.{SessionEnd}
use Rattle.ppp_dial.specs.DialLaw.{has_failed_often, is_allowed, is_status, finishes_with, last_status, is_survived}
use Rattle.ppp_dial.specs.Happened.{Happened, asked}
use Rattle.ppp_dial.specs.InPlace.{FinishesByRoom, FinishesBySession, FinishesByStop, GoesOn, IsReached, IsSessionOver}
use Rattle.ppp_dial.specs.LookingBack.{SoFar, so_far, is_under_way, failures_in, failures_with}
use Rattle.ppp_dial.proofs.PlaceLemmas.{beginning_follows, ended_under}

-- the chain of reasons by which a session's end finishes the link, read backwards
ending : (stopped persist often : Bool) (of_session status : ℕ)
    → is_status status (cond stopped (Some 5) (cond (not persist || often) (Some of_session) None)) ≡ true
    → ((stopped ≡ true) × (status ≡ 5)) ⊎ ((stopped ≡ false) × (status ≡ of_session) × ((persist ≡ false) ⊎ (often ≡ true)))
ending true persist often of_session status e = inl (refl, sym (eqb-true 5 status e))
ending false false often of_session status e = inr (refl, sym (eqb-true of_session status e), inl refl)
ending false true true of_session status e = inr (refl, sym (eqb-true of_session status e), inr refl)
ending false true false of_session status e = absurd (cc e)

surviving : (stopped persist often : Bool) (of_session : ℕ)
    → is_none (cond stopped (Some 5) (cond (not persist || often) (Some of_session) None)) ≡ true
    → (stopped ≡ false) × (persist ≡ true) × (often ≡ false)
surviving true persist often of_session e = absurd (cc e)
surviving false false often of_session e = absurd (cc e)
surviving false true true of_session e = absurd (cc e)
surviving false true false of_session e = (refl, refl, refl)

reached : (maxfail failures : ℕ) → has_failed_often maxfail failures ≡ true → IsReached maxfail failures
reached maxfail failures e =
    let a = and_parts _ _ e in
    (let b : (maxfail == 0) ≡ false = not-true _ a.0 in grind (arith, nat_tests), leb-true maxfail failures a.1)

not_reached : (maxfail failures : ℕ) → has_failed_often maxfail failures ≡ false → ¬ IsReached maxfail failures
not_reached maxfail failures e = λ r.
    let above : 0 < maxfail = r.0 in
    let few : maxfail ≤ failures = r.1 in grind (arith, nat_tests)

stopped_with_5 : (busy : Bool) (status : ℕ) → is_status status (cond busy None (Some 5)) ≡ true → status ≡ 5
stopped_with_5 true status e = absurd (cc e)
stopped_with_5 false status e = sym (eqb-true 5 status e)

by_stop : (policy : DialPolicy) (before : SoFar) (earlier : List Happened) (h : Happened) (status : ℕ) (kind : CallKind) → h.call.kind ≡ kind
    → is_status status (finishes_with kind policy (so_far before earlier)) ≡ true
    → FinishesByStop before earlier h status ⊎ FinishesBySession policy before earlier h status
by_stop policy before earlier h status Start is e = absurd (cc e)
by_stop policy before earlier h status Wake is e = absurd (cc e)
by_stop policy before earlier h status Hup is e = absurd (cc e)
by_stop policy before earlier h status Tick is e = absurd (cc e)
by_stop policy before earlier h status (SessionOver end) is e =
    let s : SoFar = so_far before earlier in
    let over : IsSessionOver h.call.kind = subst IsSessionOver (sym is) tt in
    let count : failures_with (SessionOver end) s.failures ≡ failures_in before (h ∷ earlier) = ap (λ (kind : CallKind). failures_with kind s.failures) (sym is) in
    let under : is_under_way s ≡ true = ended_under (is_under_way s) (last_status policy s end) status e in
    elim (ending s.stopped policy.persist (has_failed_often policy.maxfail (failures_with (SessionOver end) s.failures)) end.status status
    (subst (λ (b : Bool). is_status status (cond b (last_status policy s end) None) ≡ true) under e)) [
      | inl stopped ↦ inl (stopped.1, inr (over, stopped.0))
      | inr session ↦ inr (record {
        of_session = end;
        kind = is;
        is = session.1;
        not_stopped = session.0;
        last = elim (session.2) [
          | inl alone ↦ inl alone
          | inr often ↦ inr (subst (λ (n : ℕ). IsReached policy.maxfail n) count (reached policy.maxfail (failures_with (SessionOver end) s.failures) often))
        ];
      })
    ]
by_stop policy before earlier h status Stop is e = inl (stopped_with_5 _ status e, inl is)

pub why_finished : (policy : DialPolicy) (before : SoFar) (earlier : List Happened) (h : Happened) (status : ℕ)
    → is_allowed policy (so_far before earlier) h.call (Finish status) ≡ true
    → FinishesByStop before earlier h status ⊎ (FinishesBySession policy before earlier h status ⊎ FinishesByRoom policy before earlier h status)
why_finished policy before earlier h status e = elim (or_cases _ _ e) [
  | inl by_end ↦ elim (by_stop policy before earlier h status h.call.kind refl by_end) [ inl stop ↦ inl stop | inr session ↦ inr (inl session) ]
  | inr by_room ↦ (
      let a = and_parts _ _ by_room in
      let b = and_parts _ _ a.0 in
      let f = beginning_follows policy (so_far before earlier) h.call b.0 in
      inr (inr (record { is = eqb-true status 34 a.1; little = ltb-true h.call.room 1024 b.1; follows = f.0; on_demand = f.1 }))
      )
]

survived_by : (policy : DialPolicy) (s : SoFar) (end : SessionEnd) (at room : ℕ) (answer : DialNow) → ((status : ℕ) → answer ≢ Finish status)
    → is_allowed policy s (asked (SessionOver end) at room) answer ≡ true → is_survived policy s end ≡ true
survived_by policy s end at room Nothing not_end e = absurd (cc e)
survived_by policy s end at room Begin not_end e = (and_parts _ _ (and_parts _ _ (and_parts _ _ e).0).0).0
survived_by policy s end at room (Hold ms) not_end e = (and_parts _ _ (and_parts _ _ e).0).0
survived_by policy s end at room Wait not_end e = (and_parts _ _ (and_parts _ _ e).0).0
survived_by policy s end at room (Finish status) not_end e = absurd (not_end status refl)

going_on : (policy : DialPolicy) (before : SoFar) (earlier : List Happened) (h : Happened) (kind : CallKind) → h.call.kind ≡ kind → IsSessionOver kind
    → ((status : ℕ) → h.answer ≢ Finish status)
    → is_allowed policy (so_far before earlier) (asked kind h.call.at h.call.room) h.answer ≡ true → GoesOn policy before earlier h
going_on policy before earlier h Start is over not_end e = absurd over
going_on policy before earlier h Wake is over not_end e = absurd over
going_on policy before earlier h Hup is over not_end e = absurd over
going_on policy before earlier h Tick is over not_end e = absurd over
going_on policy before earlier h (SessionOver end) is over not_end e =
    let s : SoFar = so_far before earlier in
    let count : failures_with (SessionOver end) s.failures ≡ failures_in before (h ∷ earlier) = ap (λ (kind : CallKind). failures_with kind s.failures) (sym is) in
    let a = surviving s.stopped policy.persist (has_failed_often policy.maxfail (failures_with (SessionOver end) s.failures)) end.status
    (and_parts _ _ (survived_by policy s end h.call.at h.call.room h.answer not_end e)).1 in
    record {
      not_stopped = a.0;
      persist = a.1;
      few = subst (λ (n : ℕ). ¬ IsReached policy.maxfail n) count (not_reached policy.maxfail (failures_with (SessionOver end) s.failures) a.2);
    }
going_on policy before earlier h Stop is over not_end e = absurd over

pub goes_on : (policy : DialPolicy) (before : SoFar) (earlier : List Happened) (h : Happened) → IsSessionOver h.call.kind
    → ((status : ℕ) → h.answer ≢ Finish status) → is_allowed policy (so_far before earlier) h.call h.answer ≡ true → GoesOn policy before earlier h
goes_on policy before earlier h over not_end e = going_on policy before earlier h h.call.kind refl over not_end e
