-- Which calls of a list do something, whatever that is, each after the calls before it. The newest call comes first.
use Rattle.std.specs.Prelude.{◌≡◌, ◌+◌, ◌≤◌, List, [], ◌∷◌, ◌++◌, length, ⊤}
use Rattle.ppp_proving.specs.Calls.{Answered, ticks, sent_at}
use Rattle.ppp_proving.specs.Resending.{last_of}

-- none of them does it
abbrev pub NoneOf : (Answered → List Answered → Type 0) → List Answered → Type 0
NoneOf Does [] = ⊤
NoneOf Does (h ∷ past) = (Does h past → ⊥) × NoneOf Does past

-- some call does it
pub record SomeOf (Does : Answered → List Answered → Type 0) (past : List Answered) : Type 0 where
  pub later : List Answered
  pub call : Answered
  pub earlier : List Answered
  pub split : past ≡ later ++ call ∷ earlier
  pub does : Does call earlier

-- The first call that does it is this one, after these.
pub record IsFirst (Does : Answered → List Answered → Type 0) (past : List Answered) (call : Answered) (earlier : List Answered) : Type 0 where
  pub later : List Answered
  pub split : past ≡ later ++ call ∷ earlier
  pub does : Does call earlier
  pub none : NoneOf Does earlier

-- Time passes, 3 seconds or more after the tenth sending.
pub record Tires (h : Answered) (earlier : List Answered) : Type 0 where
  pub ticks_now : h.call ≡ ticks
  pub ten : 10 ≤ length (sent_at earlier)
  pub over : last_of (sent_at earlier) + 3000 ≤ h.now

-- It is given up: 3 seconds have passed since the tenth sending, and no answer had come, be it good or bad.
pub record GivesUp (Accepts Rejects : Answered → List Answered → Type 0) (h : Answered) (earlier : List Answered) : Type 0 where
  pub tires : Tires h earlier
  pub none_good : NoneOf Accepts earlier
  pub none_bad : NoneOf Rejects earlier
