-- A script has ended: its mark, and that of the start that is due behind it, were owed.
use Rattle.std.proofs.Common.{◌≡◌, ℕ, ◌+◌, ◌≤◌, ◌<◌, Bool, true, false, Option, None, Some, List, ◌∷◌, ◌++◌, refl, ap, sym, ◌∙◌, subst, arith}
use Rattle.std.specs.Prelude.{◌==◌, ◌&&◌, is_none, is_some, if◌then◌else◌}
use Rattle.std.proofs.lemmas.Bool.{false≢true}
use Rattle.std.proofs.lemmas.Bool.Decides.{nat_tests}
use Rattle.ppp_hooks.specs.HookPast.{ends_in, last_in, open_in, starts_in}
use Rattle.ppp_hooks.specs.HookRule.{due_for}
use Rattle.ppp_mark.specs.declared.mark.Mark.{Mark}
use Rattle.ppp_mark.specs.Marks.{ended_mark}
use Rattle.ppp_mark.specs.Scripts.{due_marks, said_in}
use Rattle.ppp_outside.specs.declared.spawner.ScriptEnd.{ScriptEnd}
use Rattle.ppp_link_rules.specs.LinkPart.{job_ended}
use Rattle.ppp_link_rules.specs.LinkState.{LinkState}
use Rattle.ppp_link_rules.specs.Marks.{cause_in, doing_in, is_session, lcp_open_in, since_in, stay_in, stopped_in}
use Rattle.ppp_link_facts.specs.Budget.{SaidLast, doing_owed, owed_in, script_owed, scripts_owed, stop_owed}
use Rattle.ppp_link_facts.proofs.Budgets.{Mid, below_of, mid_idle}
use Rattle.ppp_link_facts.proofs.EndRules.{due_adds, due_by, due_same, with_past}
use Rattle.ppp_link_facts.proofs.Sight.{Adds, Idle, busy_in, last_told, sight}

-- what can still come behind the end of a script, with the start that is due then
one_script : (b : Bool) → (if b then 0 else 1) ≤ 1
one_script true = omega arith
one_script false = omega arith

abbrev Spends : List Mark → Option (Bool × ℕ) → List Mark → Type 0
Spends past last now = since_in now + (scripts_owed (said_in now) + 1) ≤ since_in past + script_owed last

none_owed : (past : List Mark) → (ends_in (said_in past) == starts_in (said_in past)) ≡ true → scripts_owed (said_in past) ≡ 0
none_owed past e = ap (λ (b : Bool). if b then 0 else script_owed (last_in (said_in past))) e

spends_by : (time : ℕ) (past : List Mark) (last : Option (Bool × ℕ)) → (ends_in (said_in past) == starts_in (said_in past)) ≡ true → Spends past last (due_by true (due_for last None) time ++ past)
spends_by time past None e = omega (arith, none_owed past e)
spends_by time past (Some (true, n)) e = omega (arith, one_script (ends_in (said_in past) == starts_in (said_in past) + 1))
spends_by time past (Some (false, n)) e = omega (arith, none_owed past e)

spends : (time : ℕ) (past : List Mark) → (ends_in (said_in past) == starts_in (said_in past)) ≡ true → open_in (said_in past) ≡ None → Spends past (last_in (said_in past)) (due_marks time past ++ past)
spends time past e none =
    subst (λ (b : Bool). Spends past (last_in (said_in past)) (due_by b (due_for (last_in (said_in past)) (open_in (said_in past))) time ++ past)) (sym e)
    (subst (λ (o : Option ℕ). Spends past (last_in (said_in past)) (due_by true (due_for (last_in (said_in past)) o) time ++ past)) (sym none) (spends_by time past (last_in (said_in past)) e))

none_of : {A : Type 0} (o : Option A) → is_some o ≡ false → o ≡ None
none_of None e = refl
none_of (Some x) e = absurd (false≢true (sym e))

same_eq : (a b : ℕ) → b ≡ a + 1 → (a + 1 == b) ≡ true
same_eq a b e = grind (arith, nat_tests, e)

-- a script that runs is owed its end
running_owed : (past : List Mark) → (ends_in (said_in past) == starts_in (said_in past)) ≡ false → scripts_owed (said_in past) ≡ script_owed (last_in (said_in past))
running_owed past e = ap (λ (b : Bool). if b then 0 else script_owed (last_in (said_in past))) e

owes_then : (past now : List Mark) (last : Option (Bool × ℕ)) → since_in past + owed_in past ≤ 960 → scripts_owed (said_in past) ≡ script_owed last
    → since_in now + (scripts_owed (said_in now) + 1) ≤ since_in past + 1 + script_owed last → doing_in now ≡ doing_in past → stopped_in now ≡ stopped_in past → since_in now + owed_in now ≤ 960
owes_then past now last few runs spent doing stopped =
    let d : doing_owed (doing_in now) ≡ doing_owed (doing_in past) = ap doing_owed doing in
    let t : stop_owed (stopped_in now) ≡ stop_owed (stopped_in past) = ap stop_owed stopped in
    omega (arith, few, runs, spent, d, t)

pub job_mid : {m : ℕ} (answer : ScriptEnd) (s : LinkState) → Mid m 960 (sight s) → m + 2 ≤ 952 → s.job_out ≡ true → Mid (m + 2) 960 (sight (job_ended answer s))
job_mid answer s h le out =
    let e : ℕ = ends_in (said_in s.log.past) in
    let n : ℕ = starts_in (said_in s.log.past) in
    let runs : e < n = below_of e n (h.job out) h.ends in
    let is : n ≡ e + 1 = omega (arith, runs, h.one) in
    let p : List Mark = ended_mark s.time answer (e + 1) ∷ s.log.past in
    let a : Adds 1 (with_past p (sight s)) (with_past (due_marks s.time p ++ p) (sight s)) = due_adds (with_past p (sight s)) s.time in
    let busy : busy_in (sight (job_ended answer s)) ≡ busy_in (sight s) = due_same (λ q. is_session (doing_in q) && is_none (cause_in q)) s.time p (λ up k. refl) in
    let stay : stay_in (due_marks s.time p ++ p) ≡ stay_in s.log.past = due_same stay_in s.time p (λ up k. refl) in
    let opening : open_in (said_in (due_marks s.time p ++ p)) ≡ open_in (said_in s.log.past) = due_same (λ q. open_in (said_in q)) s.time p (λ up k. refl) in
    record {
      sits = record { phase = h.sits.phase; stay = λ c. ap is_some stay ∙ h.sits.stay c; auth = λ c. ap is_some opening ∙ h.sits.auth c };
      shut = λ over. h.shut (sym busy ∙ over);
      ends = omega (arith, a.ends, a.starts, is);
      one = a.one (omega (arith, is));
      job = λ f. absurd (false≢true f);
      dial = h.dial;
      said = subst (λ d. SaidLast d (last_told (due_marks s.time p ++ p))) (sym a.doing) (subst (λ l. SaidLast (doing_in s.log.past) l) (sym a.told) h.said);
      lcp = due_same lcp_open_in s.time p (λ up k. refl) ∙ h.lcp;
      free = omega (arith, h.free, a.since);
      few = λ goes. omega (arith, h.few (sym busy ∙ goes), a.since, a.few);
      owes = λ over.
          let i : Idle (sight s) = mid_idle h (sym busy ∙ over) in
          let spent : Spends p (last_in (said_in p)) (due_marks s.time p ++ p) = spends s.time p (same_eq e n is) (none_of (open_in (said_in s.log.past)) i.auth) in
          owes_then s.log.past (due_marks s.time p ++ p) (last_in (said_in s.log.past)) (h.owes i.over) (running_owed s.log.past (h.job out)) spent a.doing a.stopped;
    }
