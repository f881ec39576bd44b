-- What scripts still owe a log once one has ended: an up's down, and then nothing.
use Rattle.std.proofs.Common.{◌≡◌, ℕ, ◌+◌, ◌≤◌, Bool, true, false, cond, Option, None, Some, arith}
use Rattle.std.proofs.lemmas.Bool.Decides.{nat_tests}
use Rattle.std.specs.Prelude.{◌==◌, is_some}
use Rattle.ppp_hooks.specs.declared.facts.Opening.{Opening}
use Rattle.ppp_hooks.specs.declared.facts.Start.{Start}
use Rattle.ppp_hooks.specs.HookFacts.{settled, start_due, with_start}
use Rattle.ppp_bundle.specs.Sound.{owed}

same_number : (n : ℕ) → (n == n) ≡ true
same_number n = grind (arith, nat_tests)

below : (n : ℕ) → (n == n + 1) ≡ false
below n = grind (arith, nat_tests)

up_or_down : (up : Bool) (o : Opening) (greatest ends more : ℕ)
    → owed (with_start (record { now_open = None; last = Some (record { up = up; opening = o }); greatest = greatest; starts = ends + 1; ends = ends + 1; not_started = more }) (start_due (Some (record { up = up; opening = o })) None)) + 2 ≤ cond up 4 2
up_or_down true o greatest ends more = rw (below (ends + 1)) (omega arith)
up_or_down false o greatest ends more = rw (same_number (ends + 1)) (omega arith)

owed_next : (last : Option Start) (greatest ends not_started more : ℕ)
    → owed (settled (record { now_open = None; last = last; greatest = greatest; starts = ends + 1; ends = ends + 1; not_started = more })) + 2
    ≤ owed (record { now_open = None; last = last; greatest = greatest; starts = ends + 1; ends = ends; not_started = not_started })
owed_next None greatest ends not_started more = rw (same_number (ends + 1), below ends) (rw (same_number (ends + 1)) (omega arith))
owed_next (Some s) greatest ends not_started more = rw (same_number (ends + 1), below ends) (up_or_down s.up s.opening greatest ends more)

pub owed_more : (now_open : Option Opening) (last : Option Start) (greatest starts ends not_started more : ℕ) → is_some now_open ≡ false → ends + 1 ≡ starts
    → owed (settled (record { now_open = now_open; last = last; greatest = greatest; starts = starts; ends = ends + 1; not_started = more })) + 2
    ≤ owed (record { now_open = now_open; last = last; greatest = greatest; starts = starts; ends = ends; not_started = not_started })
owed_more None last greatest starts ends not_started more e f = rw (← f) (owed_next last greatest ends not_started more)
owed_more (Some o) last greatest starts ends not_started more e f = absurd (let g : true ≡ false = e in cc)
