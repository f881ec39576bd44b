-- What comes after a stop.
use Rattle.std.proofs.Common.{ℕ, ◌≡◌, ◌||◌, Bool, true, false, cond, List, [], ◌∷◌, ◌++◌, All, inl, inr, refl, sym, subst, ap, ◌∙◌}
use Rattle.std.specs.Prelude.{⊤}
use Rattle.std.proofs.lemmas.List.Elements.{All-nil, All-cons}
use Rattle.ppp_dial.specs.declared.call.CallKind.{CallKind}
use Rattle.ppp_dial.specs.declared.call.CallKind.TheVariants.{Start, Wake, Hup, Tick, SessionOver, Stop}
use Rattle.ppp_dial.specs.declared.now.DialNow.{DialNow}
use Rattle.ppp_dial.specs.declared.now.DialNow.TheVariants.{Nothing, Begin, Hold, Wait, Finish}
use Rattle.ppp_dial.specs.declared.policy.DialPolicy.{DialPolicy}
use Rattle.ppp_dial.specs.DialLaw.{DialLaw, is_allowed}
use Rattle.ppp_dial.specs.Happened.{DialCall, Happened, asked}
use Rattle.ppp_dial.specs.InPlace.{IsStopping}
use Rattle.ppp_dial.specs.LookingBack.{SoFar, so_far, is_nothing, is_stopped_in, last_in, is_stop}
use Rattle.ppp_dial.specs.Answer.{answer_by}
use Rattle.ppp_dial.proofs.Allowed.{allowed_is_rule}
use Rattle.ppp_dial.proofs.LookingBackLemmas.{made_of}
use Rattle.ppp_dial.proofs.PlaceLemmas.{law-split, nothing_follows}

-- an attempt is under way, or the link has finished
abbrev IsLast : DialNow × ℕ → Type 0
IsLast (Begin, since) = ⊤
IsLast (Finish status, since) = ⊤
IsLast _ = ⊥

stays_by : (answer : DialNow) (last : DialNow × ℕ) (at : ℕ) → IsStopping answer → IsLast last → IsLast (cond (is_nothing answer) last (answer, at))
stays_by answer last at (inl e) is = subst (λ (a : DialNow). IsLast (cond (is_nothing a) last (a, at))) (sym e) is
stays_by answer last at (inr e) is = subst (λ (a : DialNow). IsLast (cond (is_nothing a) last (a, at))) (sym e) tt

begun_stops : (policy : DialPolicy) (since failures : ℕ) (kind : CallKind) (at room : ℕ) (answer : DialNow)
    → answer ≡ answer_by kind policy (made_of (Begin, since) failures true) at room → IsStopping answer
begun_stops policy since failures Start at room answer e = inl e
begun_stops policy since failures Wake at room answer e = inl e
begun_stops policy since failures Hup at room answer e = inl e
begun_stops policy since failures Tick at room answer e = inl e
begun_stops policy since failures (SessionOver end) at room answer e = inr e
begun_stops policy since failures Stop at room answer e = inl e

stopping : (policy : DialPolicy) (last : DialNow × ℕ) (failures : ℕ) (kind : CallKind) (at room : ℕ) (answer : DialNow) → IsLast last
    → is_allowed policy (made_of last failures true) (asked kind at room) answer ≡ true → IsStopping answer
stopping policy (Nothing, since) failures kind at room answer is e = absurd is
stopping policy (Begin, since) failures kind at room answer is e =
    begun_stops policy since failures kind at room answer (allowed_is_rule kind policy (made_of (Begin, since) failures true) at room answer e)
stopping policy (Hold ms, since) failures kind at room answer is e = absurd is
stopping policy (Wait, since) failures kind at room answer is e = absurd is
stopping policy (Finish status, since) failures kind at room answer is e =
    inl (nothing_follows policy (made_of (Finish status, since) failures true) (asked kind at room) answer status refl e)

stopping_in : (policy : DialPolicy) (s : SoFar) (call : DialCall) (answer : DialNow) → s.stopped ≡ true → IsLast s.last
    → is_allowed policy s call answer ≡ true → IsStopping answer
stopping_in policy s call answer stopped is e =
    stopping policy s.last s.failures call.kind call.at call.room answer is
    (subst (λ (b : Bool). is_allowed policy (made_of s.last s.failures b) call answer ≡ true) stopped e)

stays_by_finish : (last : DialNow × ℕ) (at : ℕ) (answer : DialNow) → answer ≡ Finish 5 → IsLast (cond (is_nothing answer) last (answer, at))
stays_by_finish last at answer e = subst (λ (a : DialNow). IsLast (cond (is_nothing a) last (a, at))) (sym e) tt

or_true : (b : Bool) → (b || true) ≡ true
or_true true = refl
or_true false = refl

stop_leaves : (policy : DialPolicy) (last : DialNow × ℕ) (failures : ℕ) (stopped : Bool) (at room : ℕ) (answer : DialNow)
    → answer ≡ answer_by Stop policy (made_of last failures stopped) at room → IsLast (cond (is_nothing answer) last (answer, at))
stop_leaves policy (Nothing, since) failures stopped at room answer e = stays_by_finish (Nothing, since) at answer e
stop_leaves policy (Begin, since) failures stopped at room answer e = stays_by answer (Begin, since) at (inl e) tt
stop_leaves policy (Hold ms, since) failures stopped at room answer e = stays_by_finish (Hold ms, since) at answer e
stop_leaves policy (Wait, since) failures stopped at room answer e = stays_by_finish (Wait, since) at answer e
stop_leaves policy (Finish status, since) failures stopped at room answer e = stays_by answer (Finish status, since) at (inl e) tt

after_stop : (policy : DialPolicy) (s : SoFar) (later : List Happened) → s.stopped ≡ true → IsLast s.last → DialLaw policy s later
    → (is_stopped_in s later ≡ true) × IsLast (last_in s later) × All (λ (x : Happened). IsStopping x.answer) later
after_stop policy s [] stopped is l = (stopped, is, All-nil (λ (x : Happened). IsStopping x.answer))
after_stop policy s (x ∷ later) stopped is l =
    let r = after_stop policy s later stopped is l.1 in
    let one : IsStopping x.answer = stopping_in policy (so_far s later) x.call x.answer r.0 r.1 l.0 in (
      ap (λ (b : Bool). is_stop x.call.kind || b) r.0 ∙ or_true (is_stop x.call.kind),
      stays_by x.answer (last_in s later) x.call.at one r.1,
      All-cons (λ (y : Happened). IsStopping y.answer) x later one r.2,
    )

pub stop_is_the_end : (policy : DialPolicy) (before : SoFar) (later earlier : List Happened) (h : Happened) → h.call.kind ≡ Stop
    → DialLaw policy before (later ++ h ∷ earlier) → All (λ (x : Happened). IsStopping x.answer) later
stop_is_the_end policy before later earlier h is l =
    let parts = law-split policy before later (h ∷ earlier) l in
    let s : SoFar = so_far before earlier in
    let rule : h.answer ≡ answer_by h.call.kind policy s h.call.at h.call.room =
    allowed_is_rule h.call.kind policy s h.call.at h.call.room h.answer parts.1.0 in
    (after_stop policy (so_far before (h ∷ earlier)) later
    (ap (λ (kind : CallKind). is_stop kind || s.stopped) is)
    (stop_leaves policy s.last s.failures s.stopped h.call.at h.call.room h.answer
    (rule ∙ ap (λ (kind : CallKind). answer_by kind policy s h.call.at h.call.room) is))
    parts.0).2
