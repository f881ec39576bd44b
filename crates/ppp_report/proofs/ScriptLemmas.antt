-- What one more mark says of scripts.
use Rattle.std.proofs.Common.{◌≡◌, ◌⊎◌, ℕ, Bool, true, false, List, [], ◌∷◌, Option, Some, None, MatchOption, refl, sym, subst, inl, inr, arith}
use Rattle.std.specs.Prelude.{◌==◌, ◌||◌, is_some}
use Rattle.ppp_hooks.specs.HookMark.{HookMark, Opened, Closed, Started, Ended}
use Rattle.ppp_hooks.specs.HookPast.{open_in}
use Rattle.ppp_hooks.specs.HookPlace.{MayStand, is_among, openings_in}
use Rattle.ppp_mark.specs.declared.kind.TheConstants.{AUTH_CLOSED, ENDED, IP_CLOSED}
use Rattle.ppp_mark.specs.declared.mark.Mark.{Mark}
use Rattle.ppp_mark.specs.Scripts.{MayStandMark, answer_of, said_with}
use Rattle.ppp_report.specs.declared.scripts.Scripts.{Scripts}
use Rattle.ppp_report.specs.Tells.{Tells}

-- where nothing is open, nothing has opened since the last closing
pub none_among : (past : List HookMark) (n : ℕ) → open_in past ≡ None → is_among n (openings_in past) ≡ false
none_among [] n e = refl
none_among (Opened m ∷ past) n e = absurd (cc e)
none_among (Closed m ∷ past) n e = refl
none_among (Started up m ∷ past) n e = none_among past n e
none_among (Ended answer job ∷ past) n e = none_among past n e

or-false : (a b : Bool) → b ≡ false → (a || b) ≡ a
or-false true b e = refl
or-false false b e = e

is_none : (o : Option ℕ) → is_some o ≡ false → o ≡ None
is_none None e = refl
is_none (Some n) e = absurd (cc e)

pub one_open : (past : List HookMark) (opening n : ℕ) → is_some (open_in past) ≡ false → is_among n (opening ∷ openings_in past) ≡ (opening == n)
one_open past opening n none = or-false (opening == n) (is_among n (openings_in past)) (none_among past n (is_none (open_in past) none))

pub said_closed : (m : Mark) (hooks : List HookMark) → (m.kind ≡ AUTH_CLOSED) ⊎ (m.kind ≡ IP_CLOSED) → said_with m hooks ≡ Closed m.z ∷ hooks
said_closed m hooks (inl e) = rw e refl
said_closed m hooks (inr e) = rw e refl

closed_may : (m : Mark) (hooks : List HookMark) → (m.kind ≡ AUTH_CLOSED) ⊎ (m.kind ≡ IP_CLOSED) → MayStandMark 0 hooks m
closed_may m hooks (inl e) = record { start = λ s. absurd (omega (arith, e, s)); ended = λ s. absurd (omega (arith, e, s)) }
closed_may m hooks (inr e) = record { start = λ s. absurd (omega (arith, e, s)); ended = λ s. absurd (omega (arith, e, s)) }

pub closed : (m : Mark) (hooks : List HookMark) (s : Scripts) → (m.kind ≡ AUTH_CLOSED) ⊎ (m.kind ≡ IP_CLOSED) → Tells s (Closed m.z ∷ hooks)
    → MayStandMark 0 hooks m × Tells s (said_with m hooks)
closed m hooks s e tells = (closed_may m hooks e, subst (λ h. Tells s h) (sym (said_closed m hooks e)) tells)

said_ended : (m : Mark) (hooks : List HookMark) → m.kind ≡ ENDED → said_with m hooks ≡ Ended (answer_of m.x m.y) m.z ∷ hooks
said_ended m hooks e = rw e refl

pub ended : (m : Mark) (hooks : List HookMark) (r : Option Scripts) → m.kind ≡ ENDED
    → MatchOption r (¬ MayStand 0 hooks (Ended (answer_of m.x m.y) m.z)) (λ s. MayStand 0 hooks (Ended (answer_of m.x m.y) m.z) × Tells s (Ended (answer_of m.x m.y) m.z ∷ hooks))
    → MatchOption r (¬ MayStandMark 0 hooks m) (λ s. MayStandMark 0 hooks m × Tells s (said_with m hooks))
ended m hooks None e h = λ may. h (may.ended e)
ended m hooks (Some s) e h = (
  record { start = λ k. absurd (omega (arith, e, k)); ended = λ k. h.0 },
  subst (λ hs. Tells s hs) (sym (said_ended m hooks e)) h.1,
)
