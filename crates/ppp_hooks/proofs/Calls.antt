-- Over every list of calls the marks that they leave are lawful and settled.
use Rattle.std.proofs.Common.{ℕ, ◌+◌, ◌<◌, ◌≡◌, true, Option, None, Some, List, [], ◌∷◌, ◌++◌, refl, arith, IsSome, subst, sym}
use Rattle.std.proofs.lemmas.Bool.Decides.{nat_tests}
use Rattle.ppp_hooks.specs.HookCall.{HookCall, Opens, Closes, TakesJob, Ends, AreAllowed, closed_marks, is_taken, is_running, marks_of}
use Rattle.ppp_hooks.specs.HookMark.{HookMark, Opened, Ended}
use Rattle.ppp_hooks.specs.HookPast.{starts_in, ends_in, open_in, IsLawful, IsSettled}
use Rattle.ppp_hooks.specs.HookRule.{with_due}

-- with the start that is due, a lawful past is lawful, and settled while no script runs
pub due_keeps : (past : List HookMark) → IsLawful past → IsLawful (with_due past) × IsSettled (with_due past)
due_keeps past l = grind (arith, nat_tests)

-- while a script runs nothing is due
pub due-running : (past : List HookMark) → ends_in past < starts_in past → with_due past ≡ past
due-running past runs = grind (arith, nat_tests)

still-runs : (past : List HookMark) → ends_in past < starts_in past → ends_in (with_due past) < starts_in (with_due past)
still-runs past runs = let P : List HookMark → Type 0 = λ marks. ends_in marks < starts_in marks in subst P (sym (due-running past runs)) runs

running-is : (calls : List HookCall) → is_running calls ≡ true → ends_in (marks_of calls) < starts_in (marks_of calls)
running-is calls e = grind (arith, nat_tests)

closed-runs : (now : Option ℕ) (past : List HookMark) → ends_in past < starts_in past → ends_in (closed_marks now ++ past) < starts_in (closed_marks now ++ past)
closed-runs None past runs = runs
closed-runs (Some n) past runs = runs

-- a job that was taken and has not ended runs
pub taken-runs : (calls : List HookCall) → is_taken calls ≡ true → ends_in (marks_of calls) < starts_in (marks_of calls)
taken-runs [] e = absurd (cc e)
taken-runs (Opens n ∷ calls) e = still-runs (Opened n ∷ marks_of calls) (taken-runs calls e)
taken-runs (Closes ∷ calls) e =
    still-runs (closed_marks (open_in (marks_of calls)) ++ marks_of calls) (closed-runs (open_in (marks_of calls)) (marks_of calls) (taken-runs calls e))
taken-runs (TakesJob ∷ calls) e = running-is calls e
taken-runs (Ends answer ∷ calls) e = absurd (cc e)

closed-lawful : (now : Option ℕ) (past : List HookMark) → open_in past ≡ now → IsSome now → IsLawful past → IsLawful (closed_marks now ++ past)
closed-lawful None past e some l = absurd (cc some)
closed-lawful (Some n) past e some l = (e, l)

pub lawful_calls : (calls : List HookCall) → AreAllowed calls → IsLawful (marks_of calls) × IsSettled (marks_of calls)
lawful_calls [] a = (tt, λ _. tt)
lawful_calls (Opens n ∷ calls) a = due_keeps (Opened n ∷ marks_of calls) ((a.0, a.1), (lawful_calls calls a.2).0)
lawful_calls (Closes ∷ calls) a =
    due_keeps (closed_marks (open_in (marks_of calls)) ++ marks_of calls) (closed-lawful (open_in (marks_of calls)) (marks_of calls) refl a.0 (lawful_calls calls a.1).0)
lawful_calls (TakesJob ∷ calls) a = lawful_calls calls a
lawful_calls (Ends answer ∷ calls) a =
    due_keeps (Ended answer (ends_in (marks_of calls) + 1) ∷ marks_of calls) ((taken-runs calls a.0, refl), (lawful_calls calls a.1).0)
