use Rattle.std.proofs.Common.{◌≡◌, ◌∷◌, [], ℕ, List, Bool, ap, inl, inr, refl, arith}
use Rattle.std.specs.Prelude.{Option, None, Some}
use Rattle.ppp_hooks.proofs.OneMore.{none_yet}
use Rattle.ppp_mark.specs.declared.mark.Mark.{Mark}
use Rattle.ppp_mark.specs.Marks.{mark}
use Rattle.ppp_mark.specs.Scripts.{LogLaw, MayStandMark, said_in}
use Rattle.ppp_mark.proofs.LawLemmas.{one_more_mark}
use Rattle.ppp_mark.proofs.laws.what_the_law_says.Goals as goal

nothing : LogLaw 0 []
nothing = record { directions = tt; law = none_yet 0 }

more : (past : List Mark) (m : Mark) → LogLaw 0 past → MayStandMark 0 (said_in past) m → LogLaw 0 (m ∷ past)
more past m law may = (one_more_mark 0 past m).1 (law, may)

last : (past : List Mark) (m : Mark) → LogLaw 0 (m ∷ past) → MayStandMark 0 (said_in past) m
last past m law = ((one_more_mark 0 past m).0 law).1

opened : LogLaw 0 (mark 5 35 0 0 1 ∷ [])
opened = more [] (mark 5 35 0 0 1) nothing (record { start = λ e. absurd (omega (arith, e)); ended = λ e. absurd (omega (arith, e)) })

up : LogLaw 0 (mark 5 7 1 0 1 ∷ mark 5 35 0 0 1 ∷ [])
up = more (mark 5 35 0 0 1 ∷ []) (mark 5 7 1 0 1) opened (record { start = λ e. inl (refl, (refl, tt, refl)); ended = λ e. absurd (omega (arith, e)) })

up_over : LogLaw 0 (mark 6 8 0 0 1 ∷ mark 5 7 1 0 1 ∷ mark 5 35 0 0 1 ∷ [])
up_over = more (mark 5 7 1 0 1 ∷ mark 5 35 0 0 1 ∷ []) (mark 6 8 0 0 1) up
    (record { start = λ e. absurd (omega (arith, e)); ended = λ e. (omega arith, refl) })

closed : LogLaw 0 (mark 7 38 0 0 1 ∷ mark 6 8 0 0 1 ∷ mark 5 7 1 0 1 ∷ mark 5 35 0 0 1 ∷ [])
closed = more (mark 6 8 0 0 1 ∷ mark 5 7 1 0 1 ∷ mark 5 35 0 0 1 ∷ []) (mark 7 38 0 0 1) up_over
    (record { start = λ e. absurd (omega (arith, e)); ended = λ e. absurd (omega (arith, e)) })

down : LogLaw 0 (mark 7 7 2 0 1 ∷ mark 7 38 0 0 1 ∷ mark 6 8 0 0 1 ∷ mark 5 7 1 0 1 ∷ mark 5 35 0 0 1 ∷ [])
down = more (mark 7 38 0 0 1 ∷ mark 6 8 0 0 1 ∷ mark 5 7 1 0 1 ∷ mark 5 35 0 0 1 ∷ []) (mark 7 7 2 0 1) closed
    (record { start = λ e. inr (refl, (refl, refl, refl)); ended = λ e. absurd (omega (arith, e)) })

pub returns-clause-life : goal.returns-clause-life
returns-clause-life c = more (mark 7 7 2 0 1 ∷ mark 7 38 0 0 1 ∷ mark 6 8 0 0 1 ∷ mark 5 7 1 0 1 ∷ mark 5 35 0 0 1 ∷ []) (mark 8 8 0 0 2) down
    (record { start = λ e. absurd (omega (arith, e)); ended = λ e. (omega arith, refl) })

pub returns-clause-direction : goal.returns-clause-direction
returns-clause-direction c = λ law. elim ((last (mark 5 35 0 0 1 ∷ []) (mark 5 7 3 0 1) law).start refl) [
  | inl one ↦ omega (arith, one.0)
  | inr two ↦ omega (arith, two.0)
]

pub returns-clause-job : goal.returns-clause-job
returns-clause-job c = λ law. omega (arith, ((last (mark 5 7 1 0 1 ∷ mark 5 35 0 0 1 ∷ []) (mark 6 8 0 0 2) law).ended refl).1)

abbrev opening_of : Option (Bool × ℕ) → ℕ
opening_of None = 0
opening_of (Some start) = start.1

differ : (a b : ℕ) → a ≡ b → a ≡ 1 → b ≡ 2 → ⊥
differ a b e one two = absurd (omega arith)

pub returns-clause-opening : goal.returns-clause-opening
returns-clause-opening c =
    λ law. elim ((last (mark 7 38 0 0 1 ∷ mark 6 8 0 0 1 ∷ mark 5 7 1 0 1 ∷ mark 5 35 0 0 1 ∷ []) (mark 7 7 2 0 2) law).start refl) [
      | inl one ↦ omega (arith, one.0)
      | inr two ↦ differ _ _ (ap opening_of two.1.1) refl refl
    ]

pub returns-clause-second : goal.returns-clause-second
returns-clause-second c = λ law. elim ((last (mark 5 7 1 0 1 ∷ mark 5 35 0 0 1 ∷ []) (mark 5 7 1 0 1) law).start refl) [
  | inl one ↦ let none_runs : 0 ≡ 1 = one.1.0 in omega (arith, none_runs)
  | inr two ↦ omega (arith, two.0)
]
