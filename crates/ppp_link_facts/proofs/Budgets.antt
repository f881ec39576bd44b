-- What is kept between the rules of one step, and that each rule keeps it.
use Rattle.std.proofs.Common.{◌≡◌, ℕ, ◌+◌, ◌≤◌, ◌<◌, Bool, true, false, Option, None, Some, List, length, refl, ap, sym, ◌∙◌, subst, arith}
use Rattle.std.specs.Prelude.{◌==◌, if◌then◌else◌}
use Rattle.std.proofs.lemmas.Bool.{false≢true}
use Rattle.std.proofs.lemmas.Bool.Decides.{nat_tests}
use Rattle.ppp_dial.specs.declared.now.DialNow.{DialNow}
use Rattle.ppp_fsm.specs.Moving.{is_shut}
use Rattle.ppp_hooks.specs.HookMark.{HookMark}
use Rattle.ppp_hooks.specs.HookPast.{ends_in, last_in, starts_in}
use Rattle.ppp_mark.specs.declared.mark.Mark.{Mark}
use Rattle.ppp_mark.specs.Scripts.{said_in}
use Rattle.ppp_link_rules.specs.LinkState.{is_absent}
use Rattle.ppp_link_rules.specs.Marks.{Doing, New, Dials, HasLine, IsOver, Holds, Waits, HasFinished, doing_in, since_in, stopped_in}
use Rattle.ppp_link_facts.specs.Budget.{SaidLast, doing_owed, owed_in, script_owed, scripts_owed, stop_owed}
use Rattle.ppp_link_facts.proofs.Sight.{Adds, Idle, Loud, OpensNow, Rule, Sight, SitsNow, busy_in, idle_by, last_told, loud_of, still_ended}

-- WHAT IS OWED IS LITTLE

script_few : (o : Option (Bool × ℕ)) → script_owed o ≤ 3
script_few None = omega arith
script_few (Some (true, n)) = omega arith
script_few (Some (false, n)) = omega arith

at_most : (b : Bool) (x y most : ℕ) → x ≤ most → y ≤ most → (if b then x else y) ≤ most
at_most true x y most hx hy = hx
at_most false x y most hx hy = hy

scripts_few : (said : List HookMark) → scripts_owed said ≤ 3
scripts_few said = at_most (ends_in said == starts_in said) 0 (script_owed (last_in said)) 3 (omega arith) (script_few (last_in said))

doing_few : (d : Doing) → doing_owed d ≤ 5
doing_few New = omega arith
doing_few Dials = omega arith
doing_few HasLine = omega arith
doing_few IsOver = omega arith
doing_few (Holds until) = omega arith
doing_few Waits = omega arith
doing_few (HasFinished status) = omega arith

stop_few : (b : Bool) → stop_owed b ≤ 1
stop_few true = omega arith
stop_few false = omega arith

pub owed_few : (past : List Mark) → owed_in past ≤ 9
owed_few past = omega (arith, scripts_few (said_in past), doing_few (doing_in past), stop_few (stopped_in past))

-- WITHIN A STEP

pub record Mid (most total : ℕ) (x : Sight) : Type 0 where
  pub sits : SitsNow x
  pub shut : busy_in x ≡ false → (is_shut x.state ≡ true) × (x.talks ≡ false)
  pub ends : ends_in (said_in x.past) ≤ starts_in (said_in x.past)
  pub one : starts_in (said_in x.past) ≤ ends_in (said_in x.past) + 1
  pub job : x.job ≡ true → (ends_in (said_in x.past) == starts_in (said_in x.past)) ≡ false
  pub dial : is_absent x.dial ≡ false → x.lines ≡ false
  pub said : SaidLast (doing_in x.past) (last_told x.past)
  pub lcp : OpensNow x
  pub free : length x.past + 1024 ≤ x.limit + since_in x.past
  pub few : busy_in x ≡ true → since_in x.past < most
  pub owes : busy_in x ≡ false → since_in x.past + owed_in x.past ≤ total

pub mid_idle : {m t : ℕ} {x : Sight} → Mid m t x → busy_in x ≡ false → Idle x
mid_idle k over = idle_by k.sits over (k.shut over).0 (k.shut over).1

pub below_of : (a b : ℕ) → (a == b) ≡ false → a ≤ b → a < b
below_of a b e le = grind (arith, nat_tests, e, le)

pub not_same : (a b : ℕ) → a < b → (a == b) ≡ false
not_same a b lt = grind (arith, nat_tests, lt)

job_kept : {k : ℕ} {x y : Sight} → Adds k x y → ends_in (said_in x.past) ≤ starts_in (said_in x.past) → (ends_in (said_in x.past) == starts_in (said_in x.past)) ≡ false
    → (ends_in (said_in y.past) == starts_in (said_in y.past)) ≡ false
job_kept {x = x} {y = y} a le e =
    let lt : ends_in (said_in x.past) < starts_in (said_in x.past) = below_of (ends_in (said_in x.past)) (starts_in (said_in x.past)) e le in
    not_same (ends_in (said_in y.past)) (starts_in (said_in y.past)) (omega (arith, lt, a.ends, a.starts))

said_kept : {k : ℕ} {x y : Sight} → Adds k x y → SaidLast (doing_in x.past) (last_told x.past) → SaidLast (doing_in y.past) (last_told y.past)
said_kept {x = x} {y = y} a h =
    subst (λ (d : Doing). SaidLast d (last_told y.past)) (sym a.doing) (subst (λ (l : DialNow × ℕ). SaidLast (doing_in x.past) l) (sym a.told) h)

-- a session that goes on behind a rule went on before it
before_busy : {k : ℕ} {x y : Sight} (b : Bool) → busy_in x ≡ b → Adds k x y → busy_in y ≡ true → busy_in x ≡ true
before_busy true e a goes = e
before_busy false e a goes = absurd (false≢true (sym (still_ended a e) ∙ goes))

owes_by : {k m : ℕ} {x y : Sight} (b : Bool) → busy_in x ≡ b → Adds k x y → Mid m 960 x → m + k ≤ 952 → (busy_in x ≡ false → y.past ≡ x.past) → since_in y.past + owed_in y.past ≤ 960
owes_by {y = y} true e a h le same = omega (arith, h.few e, a.since, a.few, owed_few y.past, le)
owes_by {x = x} {y = y} false e a h le same =
    let p : y.past ≡ x.past = same e in
    subst (λ (past : List Mark). since_in past + owed_in past ≤ 960) (sym p) (h.owes e)

shut_by : {k m : ℕ} {x y : Sight} (b : Bool) → busy_in x ≡ b → Loud k x y → Mid m 960 x → (busy_in x ≡ false → Idle y) → busy_in y ≡ false → (is_shut y.state ≡ true) × (y.talks ≡ false)
shut_by true e l h quiet over = l.ends h.sits e over
shut_by false e l h quiet over = ((quiet e).shut, (quiet e).silent)

-- what a rule leaves, where nothing is marked if nothing is marked freely
mid_by : {k m : ℕ} {x y : Sight} → Loud k x y → Mid m 960 x → m + k ≤ 952 → (busy_in x ≡ false → (y.past ≡ x.past) × Idle y) → Mid (m + k) 960 y
mid_by {x = x} {y = y} l h le quiet =
    let a = l.adds in
    record {
      sits = l.sits h.sits;
      shut = λ over. shut_by (busy_in x) refl l h (λ e. (quiet e).1) over;
      ends = omega (arith, h.ends, a.ends, a.starts);
      one = a.one h.one;
      job = λ out. job_kept a h.ends (h.job (sym a.job ∙ out));
      dial = λ there. a.lines ∙ h.dial (ap is_absent (sym a.dial) ∙ there);
      said = said_kept a h.said;
      lcp = l.opens h.lcp;
      free = omega (arith, h.free, a.since, a.limit);
      few = λ goes. omega (arith, h.few (before_busy (busy_in x) refl a goes), a.since, a.few);
      owes = λ over. owes_by (busy_in x) refl a h le (λ e. (quiet e).0);
    }

pub mid_rule : {k m : ℕ} {x y : Sight} → Rule k x y → Mid m 960 x → m + k ≤ 952 → Mid (m + k) 960 y
mid_rule r h le = mid_by (loud_of r) h le (λ over. r.quiet (mid_idle h over))

pub mid_loud : {k m : ℕ} {x y : Sight} → Loud k x y → busy_in x ≡ true → Mid m 960 x → m + k ≤ 952 → Mid (m + k) 960 y
mid_loud l goes h le = mid_by l h le (λ over. absurd (false≢true (sym over ∙ goes)))

-- with other bounds on the marks of a session that goes on
pub mid_few : {m n : ℕ} {x : Sight} → Mid m 960 x → (busy_in x ≡ true → since_in x.past < n) → Mid n 960 x
mid_few h f = record {
  sits = h.sits;
  shut = h.shut;
  ends = h.ends;
  one = h.one;
  job = h.job;
  dial = h.dial;
  said = h.said;
  lcp = h.lcp;
  free = h.free;
  few = f;
  owes = h.owes;
}

pub mid_more : {m n : ℕ} {x : Sight} → m ≤ n → Mid m 960 x → Mid n 960 x
mid_more le h = mid_few h (λ goes. omega (arith, h.few goes, le))
