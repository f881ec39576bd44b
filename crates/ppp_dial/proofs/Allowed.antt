-- What the law allows is what the rules answer.
use Rattle.std.proofs.Common.{ℕ, ◌≡◌, true, arith}
use Rattle.std.proofs.Common.{inl, inr}
use Rattle.std.proofs.lemmas.Bool.{or_cases, and_parts}
use Rattle.std.proofs.lemmas.Bool.Decides.{nat_tests}
use Rattle.std.specs.Prelude.{nat_lt, ◌&&◌, ◌==◌}
use Rattle.ppp_dial.specs.declared.call.CallKind.{CallKind}
use Rattle.ppp_dial.specs.declared.call.CallKind.TheVariants.{Start, Wake, Hup, Tick, SessionOver, Stop}
use Rattle.ppp_dial.specs.declared.now.DialNow.{DialNow}
use Rattle.ppp_dial.specs.declared.now.DialNow.TheVariants.{Nothing, Begin, Hold, Wait, Finish}
use Rattle.ppp_dial.specs.declared.policy.DialPolicy.{DialPolicy}
use Rattle.ppp_dial.specs.declared.session_end.SessionEnd.{SessionEnd}
use Rattle.ppp_dial.specs.DialLaw.{MayCome, is_allowed, is_status, finishes_with, would_begin}
use Rattle.ppp_dial.specs.Happened.{asked}
use Rattle.ppp_dial.specs.LookingBack.{SoFar, failures_with}
use Rattle.ppp_dial.specs.Answer.{answer_by, after_session}

pub rule_is_allowed : (kind : CallKind) (policy : DialPolicy) (s : SoFar) (at room : ℕ) → MayCome kind s
    → is_allowed policy s (asked kind at room) (answer_by kind policy s at room) ≡ true
rule_is_allowed Start policy s at room may = grind (arith, nat_tests)
rule_is_allowed Wake policy s at room may = grind (arith, nat_tests)
rule_is_allowed Hup policy s at room may = grind (arith, nat_tests)
rule_is_allowed Tick policy s at room may = grind (arith, nat_tests)
rule_is_allowed (SessionOver end) policy s at room may = grind (arith, nat_tests)
rule_is_allowed Stop policy s at room may = grind (arith, nat_tests)

finished_by_end : (policy : DialPolicy) (s : SoFar) (end : SessionEnd) (room status : ℕ) → is_status status (finishes_with (SessionOver end) policy s) ≡ true
    → Finish status ≡ after_session policy s.stopped (failures_with (SessionOver end) s.failures) end room
finished_by_end policy s end room status e = grind (arith, nat_tests)

time_without_room : (policy : DialPolicy) (s : SoFar) (at : ℕ) (end : SessionEnd) (room status : ℕ)
    → would_begin policy s (asked (SessionOver end) at room) ≡ true → nat_lt room 1024 ≡ true → (status == 34) ≡ true
    → Finish status ≡ after_session policy s.stopped (failures_with (SessionOver end) s.failures) end room
time_without_room policy s at end room status time little is = grind (arith, nat_tests)

finished_by_room : (policy : DialPolicy) (s : SoFar) (at : ℕ) (end : SessionEnd) (room status : ℕ)
    → (would_begin policy s (asked (SessionOver end) at room) && nat_lt room 1024 && status == 34) ≡ true
    → Finish status ≡ after_session policy s.stopped (failures_with (SessionOver end) s.failures) end room
finished_by_room policy s at end room status e =
    let a = and_parts _ _ e in
    let b = and_parts _ _ a.0 in
    time_without_room policy s at end room status b.0 b.1 a.1

pub allowed_is_rule : (kind : CallKind) (policy : DialPolicy) (s : SoFar) (at room : ℕ) (answer : DialNow)
    → is_allowed policy s (asked kind at room) answer ≡ true → answer ≡ answer_by kind policy s at room
allowed_is_rule Start policy s at room Nothing e = grind (arith, nat_tests)
allowed_is_rule Start policy s at room Begin e = grind (arith, nat_tests)
allowed_is_rule Start policy s at room (Hold ms) e = grind (arith, nat_tests)
allowed_is_rule Start policy s at room Wait e = grind (arith, nat_tests)
allowed_is_rule Start policy s at room (Finish status) e = grind (arith, nat_tests)
allowed_is_rule Wake policy s at room Nothing e = grind (arith, nat_tests)
allowed_is_rule Wake policy s at room Begin e = grind (arith, nat_tests)
allowed_is_rule Wake policy s at room (Hold ms) e = grind (arith, nat_tests)
allowed_is_rule Wake policy s at room Wait e = grind (arith, nat_tests)
allowed_is_rule Wake policy s at room (Finish status) e = grind (arith, nat_tests)
allowed_is_rule Hup policy s at room Nothing e = grind (arith, nat_tests)
allowed_is_rule Hup policy s at room Begin e = grind (arith, nat_tests)
allowed_is_rule Hup policy s at room (Hold ms) e = grind (arith, nat_tests)
allowed_is_rule Hup policy s at room Wait e = grind (arith, nat_tests)
allowed_is_rule Hup policy s at room (Finish status) e = grind (arith, nat_tests)
allowed_is_rule Tick policy s at room Nothing e = grind (arith, nat_tests)
allowed_is_rule Tick policy s at room Begin e = grind (arith, nat_tests)
allowed_is_rule Tick policy s at room (Hold ms) e = grind (arith, nat_tests)
allowed_is_rule Tick policy s at room Wait e = grind (arith, nat_tests)
allowed_is_rule Tick policy s at room (Finish status) e = grind (arith, nat_tests)
allowed_is_rule (SessionOver end) policy s at room Nothing e = absurd (cc e)
allowed_is_rule (SessionOver end) policy s at room Begin e = grind (arith, nat_tests)
allowed_is_rule (SessionOver end) policy s at room (Hold ms) e = grind (arith, nat_tests)
allowed_is_rule (SessionOver end) policy s at room Wait e = grind (arith, nat_tests)
allowed_is_rule (SessionOver end) policy s at room (Finish status) e = elim (or_cases _ _ e) [
  | inl by_end ↦ finished_by_end policy s end room status by_end
  | inr by_room ↦ finished_by_room policy s at end room status by_room
]
allowed_is_rule Stop policy s at room Nothing e = grind (arith, nat_tests)
allowed_is_rule Stop policy s at room Begin e = grind (arith, nat_tests)
allowed_is_rule Stop policy s at room (Hold ms) e = grind (arith, nat_tests)
allowed_is_rule Stop policy s at room Wait e = grind (arith, nat_tests)
allowed_is_rule Stop policy s at room (Finish status) e = grind (arith, nat_tests)
