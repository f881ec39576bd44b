-- What a player's calls make of its run.
use Rattle.std.proofs.Common.{◌≡◌, ℕ, Bool, true, false, None, Some, List, Result, Ok, Err, refl, sym, arith}
use Rattle.std.specs.Prelude.{not, nat_eq, OnOk, if◌then◌else◌}
use Rattle.std.specs.Option.{option_eq}
use Rattle.std.specs.Result.{is_ok}
use Rattle.std.proofs.lemmas.Bool.Decides.{nat_tests}
use Rattle.ppp_fsm.specs.Fsm.{Automaton}
use Rattle.ppp_hooks.specs.HookMark.{HookMark}
use Rattle.ppp_replay.specs.BareRun.{BareRun}

pub run_is : (a b : Automaton) (p q : List HookMark) → a ≡ b → p ≡ q → let left : BareRun = record { automaton = a; past = p } in let right : BareRun = record { automaton = b; past = q } in left ≡ right
run_is a b p q e f = cc

pub not_true : (b : Bool) → not b ≡ true → b ≡ false
not_true true e = sym e
not_true false e = refl

pub not_false : (b : Bool) → not b ≡ false → b ≡ true
not_false true e = refl
not_false false e = sym e

pub when_ok : {T E : Type 0} (r : Result T E) (P : Type 0) → is_ok r ≡ true → OnOk r P → P
when_ok (Ok x) P e p = p
when_ok (Err x) P e p = absurd (cc e)

-- the job that runs has the number of starts
pub job_is : (b : Bool) (starts job : ℕ) → option_eq nat_eq (if b then Some starts else None) (Some job) ≡ true → starts ≡ job
job_is true starts job e = grind (arith, nat_tests)
job_is false starts job e = absurd (cc e)
