-- A script has ended: which job is out, and what the machine stands for behind its end.
use Rattle.std.proofs.Common.{◌≡◌, ℕ, Bool, true, false, Option, None, Some, refl, ap, sym, subst, ◌∙◌, arith}
use Rattle.std.specs.Prelude.{◌==◌, ◌&&◌, Err, IsErr, IsOk, Ok, Result, is_none}
use Rattle.std.proofs.lemmas.Bool.{false≢true}
use Rattle.std.proofs.lemmas.Bool.Decides.{nat_tests}
use Rattle.ppp_base.specs.declared.hook_target.HookTarget.{HookTarget}
use Rattle.ppp_base.specs.declared.hook_target.HookTarget.TheVariants.{Link, Unit as OfUnit}
use Rattle.ppp_hooks.specs.HookPast.{not_started_in, starts_in}
use Rattle.ppp_hooks.specs.HookState.{DoneState}
use Rattle.ppp_mark.specs.Log.{LogState}
use Rattle.ppp_mark.specs.ScriptLog.{IsRunningJob}
use Rattle.ppp_mark.specs.Scripts.{said_in}
use Rattle.ppp_outside.specs.declared.spawner.ScriptEnd.{ScriptEnd}
use Rattle.ppp_link_core.specs.declared.link_core.LinkCore.{LinkCore}
use Rattle.ppp_link_core.specs.Standing.{Does, Sits, opened}
use Rattle.ppp_link_rules.specs.Errands.{is_job_out, is_target}
use Rattle.ppp_link_rules.specs.LinkEvent.{HookOver}
use Rattle.ppp_link_rules.specs.LinkPart.{job_ended}
use Rattle.ppp_link_rules.specs.LinkState.{LinkState}
use Rattle.ppp_link_rules.specs.Sessions.{at_end}
use Rattle.ppp_link_steps.specs.Calm.{Calm}
use Rattle.ppp_link_events.proofs.EventFacts.{all_of, same_number}
use Rattle.ppp_link_events.proofs.GoingFacts.{goes_by, takes_by}
use Rattle.ppp_link_events.specs.Going.{Goes, IsGoing, Takes}

-- WHICH JOB IS OUT

left_of : (a b : Bool) → (a && b) ≡ true → a ≡ true
left_of true b e = refl
left_of false b e = e

right_of : (a b : Bool) → (a && b) ≡ true → b ≡ true
right_of true b e = e
right_of false b e = absurd (let x : true ≡ false = sym e in cc)

number_is : {a b : ℕ} → a ≡ b → (a == b) ≡ true
number_is {a = a} {b = b} e = subst (λ x. (a == x) ≡ true) e (same_number a)

is_number : (a b : ℕ) → (a == b) ≡ true → a ≡ b
is_number a b e = grind (arith, nat_tests)

is_of : (target : HookTarget) (id : ℕ) → is_target target id ≡ true → target ≡ Link id
is_of (Link link) id e = ap (λ n. Link n) (is_number link id e)
is_of (OfUnit unit) id e = absurd (let x : true ≡ false = sym e in cc)

none_there : {A : Type 0} (o : Option A) → is_none o ≡ true → o ≡ None
none_there None e = refl
none_there (Some x) e = absurd (let y : true ≡ false = sym e in cc)

pub running_out : {S : Type 0} {c : LinkCore S} (done : DoneState S) → c.records.scripts.machine.target ≡ Link c.records.id → (s : LinkState) → IsGoing c s
    → IsRunningJob done c.records.scripts → is_job_out done.target done.number done.not_started s ≡ true
running_out {c = c} done t s k r =
    let log : c.records.scripts.log ≡ s.log = ap (λ (y : LinkState). y.log) k.stands.is in
    let id : c.id ≡ s.id = ap (λ (y : LinkState). y.id) k.stands.is in
    let keeps = k.holds.scripts.stands.keeps in
    all_of (ap (λ (y : LinkState). y.job_out) (sym k.stands.is) ∙ ap is_none r.out)
    (all_of (ap (λ x. is_target x s.id) (r.target ∙ t ∙ ap (λ n. Link n) (k.stands.id ∙ id)) ∙ same_number s.id)
    (all_of (number_is (r.number ∙ ap (λ (l : LogState). starts_in (said_in l.past)) log ∙ sym keeps.starts))
    (number_is (r.not_started ∙ ap (λ (l : LogState). not_started_in (said_in l.past)) log ∙ sym keeps.not_started))))

pub out_running : {S : Type 0} {c : LinkCore S} (done : DoneState S) → c.records.scripts.machine.target ≡ Link c.records.id → (s : LinkState) → IsGoing c s
    → is_job_out done.target done.number done.not_started s ≡ true → IsRunningJob done c.records.scripts
out_running {c = c} done t s k e =
    let log : s.log ≡ c.records.scripts.log = ap (λ (y : LinkState). y.log) (sym k.stands.is) in
    let id : c.id ≡ s.id = ap (λ (y : LinkState). y.id) k.stands.is in
    let keeps = k.holds.scripts.stands.keeps in
    let one = is_target done.target s.id in
    let two = done.number == s.scripts.starts in
    let last = done.not_started == s.scripts.not_started in
    let rest : (one && (two && last)) ≡ true = right_of s.job_out (one && (two && last)) e in
    let counts : (two && last) ≡ true = right_of one (two && last) rest in
    record {
      out = none_there c.records.scripts.machine.spawner (ap (λ (y : LinkState). y.job_out) k.stands.is ∙ left_of s.job_out (one && (two && last)) e);
      target = is_of done.target s.id (left_of one (two && last) rest) ∙ ap (λ n. Link n) (sym id ∙ sym k.stands.id) ∙ sym t;
      number = is_number done.number s.scripts.starts (left_of two last counts) ∙ keeps.starts ∙ ap (λ (l : LogState). starts_in (said_in l.past)) log;
      not_started = is_number done.not_started s.scripts.not_started (right_of two last counts) ∙ keeps.not_started ∙ ap (λ (l : LogState). not_started_in (said_in l.past)) log;
    }

pub never_both : {A B : Type 0} (r : Result A B) → IsErr r → IsOk r → ⊥
never_both (Ok x) e f = false≢true e
never_both (Err x) e f = false≢true f

-- ITS END

pub job_takes : {S : Type 0} {a b c : LinkCore S} (target : HookTarget) (job not_started : ℕ) (answer : ScriptEnd) → Does (job_ended answer) a b → Does at_end b c
    → Takes (HookOver target job not_started answer) a c
job_takes target job not_started answer x y = takes_by (HookOver target job not_started answer) (λ s. refl) x y

pub job_goes : {S : Type 0} {a b c : LinkCore S} (done : DoneState S) → IsRunningJob done a.records.scripts → Does (job_ended done.answer) a b → Does at_end b c
    → Goes a → Sits (opened c.lcp) c → Calm c → Goes c
job_goes done r x y g sits calm =
    let s : LinkState = g.state in
    goes_by (HookOver (Link s.id) s.scripts.starts s.scripts.not_started done.answer) g (job_takes (Link s.id) s.scripts.starts s.scripts.not_started done.answer x y)
    (all_of (ap (λ (y : LinkState). y.job_out) (sym g.going.stands.is) ∙ ap is_none r.out)
    (all_of (same_number s.id) (all_of (same_number s.scripts.starts) (same_number s.scripts.not_started)))) sits calm
