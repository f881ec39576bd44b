-- The law of site scripts of one more mark of a log.
use Rattle.std.proofs.Common.{◌≡◌, ◌⊎◌, inl, inr, ℕ, Bool, true, false, List, ◌∷◌, refl, sym, ap, ◌∙◌, subst, arith}
use Rattle.std.specs.Prelude.{◌↔◌, ◌==◌, reverse, if◌then◌else◌}
use Rattle.std.proofs.lemmas.Bool.Decides.{nat_tests}
use Rattle.ppp_hooks.specs.HookLaw.{HookLaw}
use Rattle.ppp_hooks.specs.HookMark.{HookMark, Opened, Closed, Started, Ended}
use Rattle.ppp_hooks.specs.HookPlace.{MayStand}
use Rattle.ppp_hooks.proofs.OneMore.{one_more}
use Rattle.ppp_mark.specs.declared.kind.TheConstants.{START, ENDED}
use Rattle.ppp_mark.specs.declared.mark.Mark.{Mark}
use Rattle.ppp_mark.specs.Scripts.{LogLaw, MayStandMark, answer_of, is_closed_kind, is_open_kind, said_in}

-- what a mark says, by what is tested of its kind
abbrev said_by : Bool → Bool → Bool → Bool → Mark → List HookMark → List HookMark
said_by o c s e m past = if o then Opened m.z ∷ past else if c then Closed m.z ∷ past else if s then Started (m.x == 1) m.z ∷ past
    else if e then Ended (answer_of m.x m.y) m.z ∷ past else past

-- where what is said may stand
abbrev ByTests : ℕ → Bool → Bool → Bool → Bool → Mark → List HookMark → Type 0
ByTests b o c s e m past =
    (o ≡ false → c ≡ false → s ≡ true → MayStand b past (Started (m.x == 1) m.z))
    × (o ≡ false → c ≡ false → s ≡ false → e ≡ true → MayStand b past (Ended (answer_of m.x m.y) m.z))

by_tests : (b : ℕ) (o c s e : Bool) (m : Mark) (past : List HookMark) → HookLaw b (reverse (said_by o c s e m past)) ↔ (HookLaw b (reverse past) × ByTests b o c s e m past)
by_tests b true c s e m past =
    let r = one_more b past (Opened m.z) in (λ l. ((r.0 l).0, (λ p. absurd (cc p), λ p. absurd (cc p))), λ h. r.1 (h.0, tt))
by_tests b false true s e m past =
    let r = one_more b past (Closed m.z) in (λ l. ((r.0 l).0, (λ p q. absurd (cc q), λ p q. absurd (cc q))), λ h. r.1 (h.0, tt))
by_tests b false false true e m past =
    let r = one_more b past (Started (m.x == 1) m.z) in (λ l. ((r.0 l).0, (λ p q u. (r.0 l).1, λ p q u. absurd (cc u))), λ h. r.1 (h.0, h.1.0 refl refl refl))
by_tests b false false false true m past =
    let r = one_more b past (Ended (answer_of m.x m.y) m.z) in (λ l. ((r.0 l).0, (λ p q u. absurd (cc u), λ p q u v. (r.0 l).1)), λ h. r.1 (h.0, h.1.1 refl refl refl refl))
by_tests b false false false false m past =
    (λ l. (l, (λ p q u. absurd (cc u), λ p q u v. absurd (cc v))), λ h. h.0)

is-true : (b : Bool) → (b ≡ false → ⊥) → b ≡ true
is-true true f = refl
is-true false f = absurd (f refl)

kind-is : (kind k : ℕ) → (kind == k) ≡ true → kind ≡ k
kind-is kind k e = grind (arith, nat_tests, e)

start_at : (b : ℕ) (past : List HookMark) (x z : ℕ) → (x ≡ 1) ⊎ (x ≡ 2) → MayStand b past (Started (x == 1) z)
    → ((x ≡ 1) × MayStand b past (Started true z)) ⊎ ((x ≡ 2) × MayStand b past (Started false z))
start_at b past x z (inl one) m = inl (one, subst (λ k. MayStand b past (Started (k == 1) z)) one m)
start_at b past x z (inr two) m = inr (two, subst (λ k. MayStand b past (Started (k == 1) z)) two m)

start_back : (b : ℕ) (past : List HookMark) (x z : ℕ) → ((x ≡ 1) × MayStand b past (Started true z)) ⊎ ((x ≡ 2) × MayStand b past (Started false z))
    → ((x ≡ 1) ⊎ (x ≡ 2)) × MayStand b past (Started (x == 1) z)
start_back b past x z (inl one) = (inl one.0, subst (λ k. MayStand b past (Started (k == 1) z)) (sym one.0) one.1)
start_back b past x z (inr two) = (inr two.0, subst (λ k. MayStand b past (Started (k == 1) z)) (sym two.0) two.1)

same_test : (f : ℕ → Bool) (kind k : ℕ) (b : Bool) → kind ≡ k → f k ≡ b → f kind ≡ b
same_test f kind k b e h = ap f e ∙ h

pub one_more_mark : (b : ℕ) (past : List Mark) (m : Mark) → LogLaw b (m ∷ past) ↔ (LogLaw b past × MayStandMark b (said_in past) m)
one_more_mark b past m =
    let hooks : List HookMark = said_in past in
    let r = by_tests b (is_open_kind m.kind) (is_closed_kind m.kind) (m.kind == START) (m.kind == ENDED) m hooks in (
      λ l.
          let h = r.0 l.law in (
            record { directions = l.directions.1; law = h.0 },
            record {
              start = λ e. start_at b hooks m.x m.z (l.directions.0 e)
                  (h.1.0 (same_test is_open_kind m.kind START false e refl) (same_test is_closed_kind m.kind START false e refl) (same_test (λ k. k == START) m.kind START true e refl));
              ended = λ e. h.1.1 (same_test is_open_kind m.kind ENDED false e refl) (same_test is_closed_kind m.kind ENDED false e refl)
                  (same_test (λ k. k == START) m.kind ENDED false e refl) (same_test (λ k. k == ENDED) m.kind ENDED true e refl);
            },
          ),
      λ h. record {
        directions = (λ e. (start_back b hooks m.x m.z (h.1.start e)).0, h.0.directions);
        law = r.1 (
          h.0.law,
          (
            λ p q s. (start_back b hooks m.x m.z (h.1.start (kind-is m.kind START s))).1,
            λ p q u e. h.1.ended (kind-is m.kind ENDED e),
          ),
        );
      },
    )
