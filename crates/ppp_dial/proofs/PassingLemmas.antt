-- Which calls are passed over.
use Rattle.std.proofs.Common.{ℕ, ◌+◌, ◌≤◌, ◌≡◌, ◌||◌, true, not, is_some, is_none, inl, inr, ◌⊎◌, arith}
use Rattle.std.proofs.lemmas.Bool.{or_cases}
use Rattle.std.specs.Prelude.{nat_le, IsSome}
use Rattle.std.proofs.lemmas.Bool.Decides.{nat_tests}
use Rattle.ppp_dial.specs.declared.call.CallKind.{CallKind}
use Rattle.ppp_dial.specs.declared.call.CallKind.TheVariants.{Start, Wake, Hup, Tick, SessionOver, Stop}
use Rattle.ppp_dial.specs.declared.now.DialNow.{DialNow}
use Rattle.ppp_dial.specs.declared.now.DialNow.TheVariants.{Nothing, Begin, Hold, Wait, Finish}
use Rattle.ppp_dial.specs.declared.policy.DialPolicy.{DialPolicy}
use Rattle.ppp_dial.specs.DialLaw.{is_allowed, is_passed_over}
use Rattle.ppp_dial.specs.Happened.{DialCall}
use Rattle.ppp_dial.specs.InPlace.{Follows, IsSessionOver}
use Rattle.ppp_dial.specs.LookingBack.{SoFar, is_nothing, is_under_way, hold_since, was_to_wait, finished_with}
use Rattle.ppp_timer.specs.Due.{has_come}
use Rattle.ppp_dial.proofs.PlaceLemmas.{begun}

-- Each of these five can't come where it would follow.
no_start : (policy : DialPolicy) (last : DialNow × ℕ) (at : ℕ) → not (is_nothing last.0) ≡ true → ¬ Follows policy last Start at
no_start policy (Nothing, since) at e = λ f. cc e
no_start policy (Begin, since) at e = λ f. f
no_start policy (Hold ms, since) at e = λ f. elim f [ inl a ↦ cc a | inr b ↦ (let c : Start ≡ Tick = b.0 in cc c) ]
no_start policy (Wait, since) at e = λ f. cc f
no_start policy (Finish status, since) at e = λ f. f

no_wake : (policy : DialPolicy) (last : DialNow × ℕ) (at : ℕ) → not (was_to_wait last) ≡ true → ¬ Follows policy last Wake at
no_wake policy (Nothing, since) at e = λ f. cc f
no_wake policy (Begin, since) at e = λ f. f
no_wake policy (Hold ms, since) at e = λ f. elim f [ inl a ↦ cc a | inr b ↦ (let c : Wake ≡ Tick = b.0 in cc c) ]
no_wake policy (Wait, since) at e = λ f. cc e
no_wake policy (Finish status, since) at e = λ f. f

no_hup : (policy : DialPolicy) (last : DialNow × ℕ) (at : ℕ) → is_none (hold_since last) ≡ true → ¬ Follows policy last Hup at
no_hup policy (Nothing, since) at e = λ f. cc f
no_hup policy (Begin, since) at e = λ f. f
no_hup policy (Hold ms, since) at e = λ f. cc e
no_hup policy (Wait, since) at e = λ f. cc f
no_hup policy (Finish status, since) at e = λ f. f

not_come : (until at : ℕ) → not (nat_le until at) ≡ true → until ≤ at → ⊥
not_come until at e below = grind (arith, nat_tests)

no_tick : (policy : DialPolicy) (last : DialNow × ℕ) (at : ℕ) → not (has_come at (hold_since last)) ≡ true → ¬ Follows policy last Tick at
no_tick policy (Nothing, since) at e = λ f. cc f
no_tick policy (Begin, since) at e = λ f. f
no_tick policy (Hold ms, since) at e = λ f. elim f [ inl a ↦ cc a | inr b ↦ not_come (since + ms) at e b.1 ]
no_tick policy (Wait, since) at e = λ f. cc f
no_tick policy (Finish status, since) at e = λ f. f

no_stop : (policy : DialPolicy) (last : DialNow × ℕ) (at : ℕ) → ¬ Follows policy last Stop at
no_stop policy (Nothing, since) at = λ f. cc f
no_stop policy (Begin, since) at = λ f. f
no_stop policy (Hold ms, since) at = λ f. elim f [ inl a ↦ cc a | inr b ↦ (let c : Stop ≡ Tick = b.0 in cc c) ]
no_stop policy (Wait, since) at = λ f. cc f
no_stop policy (Finish status, since) at = λ f. f

busy : (s : SoFar) → (is_under_way s || is_some (finished_with s)) ≡ true → (s.last.0 ≡ Begin) ⊎ IsSome (finished_with s)
busy s e = elim (or_cases _ _ e) [ inl under ↦ inl (begun s.last under) | inr over ↦ inr over ]

passing : (policy : DialPolicy) (s : SoFar) (kind : CallKind) (at : ℕ) → is_passed_over kind s at ≡ true
    → (¬ IsSessionOver kind) × (¬ Follows policy s.last kind at) × (kind ≡ Stop → (s.last.0 ≡ Begin) ⊎ IsSome (finished_with s))
passing policy s Start at e = (λ over. over, no_start policy s.last at e, λ is. absurd (cc is))
passing policy s Wake at e = (λ over. over, no_wake policy s.last at e, λ is. absurd (cc is))
passing policy s Hup at e = (λ over. over, no_hup policy s.last at e, λ is. absurd (cc is))
passing policy s Tick at e = (λ over. over, no_tick policy s.last at e, λ is. absurd (cc is))
passing policy s (SessionOver end) at e = absurd (cc e)
passing policy s Stop at e = (λ over. over, no_stop policy s.last at, λ is. busy s e)

pub passed_over : (policy : DialPolicy) (s : SoFar) (call : DialCall) → is_allowed policy s call Nothing ≡ true
    → (¬ IsSessionOver call.kind) × (¬ Follows policy s.last call.kind call.at) × (call.kind ≡ Stop → (s.last.0 ≡ Begin) ⊎ IsSome (finished_with s))
passed_over policy s call e = passing policy s call.kind call.at e
