-- The dial goes on standing for its calls.
use Rattle.std.proofs.Common.{[], ℕ, ◌≡◌, Bool, true, cond, List, ◌∷◌, refl, arith, sym, subst, ap, ◌∙◌}
use Rattle.std.specs.Prelude.{min, ◌||◌}
use Rattle.ppp_dial.specs.declared.call.CallKind.{CallKind}
use Rattle.ppp_dial.specs.declared.call.CallKind.TheVariants.{Start, Wake, Hup, Tick, SessionOver, Stop}
use Rattle.ppp_dial.specs.declared.dial.Dial.{Dial}
use Rattle.ppp_dial.specs.declared.now.DialNow.{DialNow}
use Rattle.ppp_dial.specs.declared.now.DialNow.TheVariants.{Nothing, Begin, Hold, Wait, Finish}
use Rattle.ppp_dial.specs.declared.policy.DialPolicy.{DialPolicy}
use Rattle.ppp_dial.specs.declared.stage.Stage.{Stage}
use Rattle.ppp_dial.specs.declared.stage.Stage.TheVariants.{Dialling}
use Rattle.ppp_dial.specs.DialLaw.{MayCome, is_allowed}
use Rattle.ppp_dial.specs.DialState.{StandsFor, MayBeTold, dial_of, stage_of}
use Rattle.ppp_dial.specs.Happened.{Happened, asked, happened}
use Rattle.ppp_dial.specs.LookingBack.{SoFar, so_far, is_nothing, is_stop, failures_with, was_begun}
use Rattle.ppp_dial.specs.Answer.{answer_to}
use Rattle.ppp_dial.proofs.Allowed.{rule_is_allowed}

-- the dial after a call that it answered so
abbrev pub told : CallKind → ℕ → DialNow → Dial → Dial
told kind at answer dial = record {
  policy = dial.policy;
  stage = cond (is_nothing answer) dial.stage (stage_of (answer, at));
  failures = min (failures_with kind dial.failures) 4294967295;
  stopped = is_stop kind || dial.stopped;
}

abbrev made : DialPolicy → Stage → ℕ → Bool → Dial
made policy stage failures stopped = record { policy = policy; stage = stage; failures = failures; stopped = stopped }

same_dial : (policy : DialPolicy) (a b : Stage) (m n : ℕ) (s t : Bool) → a ≡ b → m ≡ n → s ≡ t → made policy a m s ≡ made policy b n t
same_dial policy a b m n s t ea en es = cc

under_way : (last : DialNow × ℕ) → stage_of last ≡ Dialling → was_begun last ≡ true
under_way (Nothing, at) e = absurd (cc e)
under_way (Begin, at) e = refl
under_way (Hold ms, at) e = absurd (cc e)
under_way (Wait, at) e = absurd (cc e)
under_way (Finish status, at) e = absurd (cc e)

may_come : (kind : CallKind) (dial : Dial) (at : ℕ) (s : SoFar) → dial ≡ dial_of dial.policy s → MayBeTold kind dial at → MayCome kind s
may_come Start dial at s e may = tt
may_come Wake dial at s e may = tt
may_come Hup dial at s e may = tt
may_come Tick dial at s e may = tt
may_come (SessionOver end) dial at s e may = under_way s.last (sym (ap (λ (d : Dial). d.stage) e) ∙ may.0)
may_come Stop dial at s e may = tt

staged : (answer : DialNow) (at : ℕ) (last : DialNow × ℕ) → cond (is_nothing answer) (stage_of last) (stage_of (answer, at)) ≡ stage_of (cond (is_nothing answer) last (answer, at))
staged Nothing at last = refl
staged Begin at last = refl
staged (Hold ms) at last = refl
staged Wait at last = refl
staged (Finish status) at last = refl

counted : (kind : CallKind) (n : ℕ) → min (failures_with kind (min n 4294967295)) 4294967295 ≡ min (failures_with kind n) 4294967295
counted Start n = omega arith
counted Wake n = omega arith
counted Hup n = omega arith
counted Tick n = omega arith
counted (SessionOver end) n = grind arith
counted Stop n = omega arith

after_telling : (kind : CallKind) (at room : ℕ) (answer : DialNow) (policy : DialPolicy) (s : SoFar)
    → told kind at answer (dial_of policy s) ≡ dial_of policy (so_far s (happened kind at room answer ∷ []))
after_telling kind at room answer policy s = same_dial policy _ _ _ _ _ _ (staged answer at s.last) (counted kind s.failures) refl

told_is : (dial : Dial) (kind : CallKind) (at : ℕ) (answer : DialNow) (stage : Stage) (failures : ℕ) (stopped : Bool)
    → stage ≡ cond (is_nothing answer) dial.stage (stage_of (answer, at)) → failures ≡ min (failures_with kind dial.failures) 4294967295
    → stopped ≡ (is_stop kind || dial.stopped) → told kind at answer dial ≡ made dial.policy stage failures stopped
told_is dial kind at answer stage failures stopped e1 e2 e3 = same_dial dial.policy _ _ _ _ _ _ (sym e1) (sym e2) (sym e3)

stands_told : (before : SoFar) (dial : Dial) (calls : List Happened) (kind : CallKind) (at room : ℕ) (answer : DialNow)
    → MayBeTold kind dial at → ((s : SoFar) → dial ≡ dial_of dial.policy s → answer ≡ answer_to dial.policy s (asked kind at room))
    → StandsFor before dial calls → StandsFor before (told kind at answer dial) (happened kind at room answer ∷ calls)
stands_told before dial calls kind at room answer may by_rule h =
    let s : SoFar = so_far before calls in
    let e : dial ≡ dial_of dial.policy s = h.state in
    record {
      state = ap (told kind at answer) e ∙ after_telling kind at room answer dial.policy s;
      law = (
        subst (λ (a : DialNow). is_allowed dial.policy s (asked kind at room) a ≡ true) (sym (by_rule s e))
            (rule_is_allowed kind dial.policy s at room (may_come kind dial at s e may)),
        h.law,
      );
    }

pub stands_after : (before : SoFar) (dial : Dial) (calls : List Happened) (kind : CallKind) (at room : ℕ) (answer : DialNow)
    (stage : Stage) (failures : ℕ) (stopped : Bool) → MayBeTold kind dial at
    → ((s : SoFar) → dial ≡ dial_of dial.policy s → answer ≡ answer_to dial.policy s (asked kind at room))
    → stage ≡ cond (is_nothing answer) dial.stage (stage_of (answer, at)) → failures ≡ min (failures_with kind dial.failures) 4294967295
    → stopped ≡ (is_stop kind || dial.stopped) → StandsFor before dial calls
    → StandsFor before (made dial.policy stage failures stopped) (happened kind at room answer ∷ calls)
stands_after before dial calls kind at room answer stage failures stopped may by_rule e1 e2 e3 h =
    subst (λ (d : Dial). StandsFor before d (happened kind at room answer ∷ calls)) (told_is dial kind at answer stage failures stopped e1 e2 e3)
    (stands_told before dial calls kind at room answer may by_rule h)
