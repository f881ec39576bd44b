-- The counts of starts and ends are those that the marks say of scripts.
use Rattle.std.proofs.Common.{refl, ap, sym, ◌∙◌, ◌≡◌, inl, inr, ℕ, ◌+◌, Bool, true, false, ◌&&◌, Option, None, Some, List, [], ◌∷◌, arith}
use Rattle.std.proofs.Math.Nat.{eq-or-lt_of_le}
use Rattle.std.specs.Prelude.{◌↔◌, IsSome, IfSome}
use Rattle.std.specs.Prelude.{is_some, ◌≤◌, ◌<◌}
use Rattle.ppp_base.specs.declared.hook_target.HookTarget.{HookTarget}
use Rattle.ppp_hooks.specs.HookPast.{ends_in, starts_in}
use Rattle.ppp_hooks.specs.HookState.{JobState}
use Rattle.ppp_mark.specs.declared.mark.Mark.{Mark}
use Rattle.ppp_mark.specs.declared.kind.TheConstants.{START, ENDED}
use Rattle.ppp_mark.specs.Scripts.{said_in}
use Rattle.ppp_link_rules.specs.Marks.{count_in}
use Rattle.ppp_link_rules.specs.Replay.{running_by}

pub starts_counted : (past : List Mark) → count_in 0 START past ≡ starts_in (said_in past)
starts_counted [] = refl
starts_counted (m ∷ past) = let e : count_in 0 START past ≡ starts_in (said_in past) = starts_counted past in grind arith

pub ends_counted : (past : List Mark) → count_in 0 ENDED past ≡ ends_in (said_in past)
ends_counted [] = refl
ends_counted (m ∷ past) = let e : count_in 0 ENDED past ≡ ends_in (said_in past) = ends_counted past in grind arith

-- THE JOB, where a script was started and its spawner is in

still : (starts ends : ℕ) → ends ≡ starts → is_some (running_by starts ends) ≡ false
still starts ends e = grind arith

runs : (starts ends : ℕ) → ends < starts → is_some (running_by starts ends) ≡ true
runs starts ends e = grind arith

while_still : (result spawner : Bool) (starts ends : ℕ) → (result ≡ true) ↔ ((spawner ≡ true) × (ends < starts)) → ends ≡ starts → result ≡ (is_some (running_by starts ends) && spawner)
while_still true spawner starts ends h e = absurd (omega (arith, (h.0 refl).1, e))
while_still false spawner starts ends h e = ap (λ (b : Bool). b && spawner) (sym (still starts ends e))

while_running : (result spawner : Bool) (starts ends : ℕ) → (result ≡ true) ↔ ((spawner ≡ true) × (ends < starts)) → ends < starts → result ≡ (is_some (running_by starts ends) && spawner)
while_running true spawner starts ends h e = sym (ap (λ (b : Bool). b && spawner) (runs starts ends e) ∙ (h.0 refl).0)
while_running false true starts ends h e = absurd (cc (h.1 (refl, e)))
while_running false false starts ends h e = sym (ap (λ (b : Bool). b && false) (runs starts ends e))

job_by : (result spawner : Bool) (starts ends : ℕ) → (result ≡ true) ↔ ((spawner ≡ true) × (ends < starts)) → ends ≤ starts → result ≡ (is_some (running_by starts ends) && spawner)
job_by result spawner starts ends h le =
    elim (eq-or-lt_of_le le) [ inl e ↦ while_still result spawner starts ends h e | inr e ↦ while_running result spawner starts ends h e ]

pub job_waits : {J S : Type 0} (past : List Mark) (result : Option J) (spawner : Option S) (ends : ℕ) → IsSome result ↔ (IsSome spawner × (ends_in (said_in past) < starts_in (said_in past)))
    → ends ≡ ends_in (said_in past) → (ends ≤ starts_in (said_in past)) × (starts_in (said_in past) ≤ ends + 1)
    → is_some result ≡ (is_some (running_by (count_in 0 START past) (count_in 0 ENDED past)) && is_some spawner)
job_waits past result spawner ends h e one =
    job_by (is_some result) (is_some spawner) (starts_in (said_in past)) (ends_in (said_in past)) h (omega (arith, e, one.0))
    ∙ (ap (λ (n : ℕ). is_some (running_by n (ends_in (said_in past))) && is_some spawner) (sym (starts_counted past))
    ∙ ap (λ (n : ℕ). is_some (running_by (count_in 0 START past) n) && is_some spawner) (sym (ends_counted past)))

-- The job that is given is that of the link's last start.
pub job_told : {S : Type 0} (past : List Mark) (result : Option (JobState S)) (target link : HookTarget) (not_started : ℕ) → target ≡ link
    → IfSome result (λ job. (job.target ≡ target) × (job.number ≡ starts_in (said_in past)) × (job.not_started ≡ not_started))
    → IfSome result (λ job. (job.target ≡ link) × (job.number ≡ count_in 0 START past))
job_told past None target link not_started e h = h
job_told past (Some job) target link not_started e h = (h.0 ∙ e, h.1 ∙ sym (starts_counted past))
