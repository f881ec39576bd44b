-- What contracts see of a log.
use Rattle.std.specs.Prelude.{ℕ, ◌-◌, ◌≡◌, true, List, [], ◌∷◌, ⊤, length, reverse}
use Rattle.ppp_base.specs.declared.hook_target.HookTarget.{HookTarget}
use Rattle.ppp_mark.specs.declared.mark.Mark.{Mark}
use Rattle.ppp_mark.specs.Table.{IsInTable, is_kind, stands_in}

-- its marks, the newest first, and how many it may have
pub record LogState : Type 0 where
  pub past : List Mark
  pub limit : ℕ

-- an empty log
abbrev pub no_marks : ℕ → LogState
no_marks limit = record { past = []; limit = limit }

-- its marks, the oldest first
abbrev pub marks_of : LogState → List Mark
marks_of log = reverse log.past

-- how many marks may still be added
abbrev pub room_of : LogState → ℕ
room_of log = log.limit - length log.past

-- one more mark
abbrev pub added : Mark → LogState → LogState
added mark log = record log { past = mark ∷ log.past }

-- each is of a kind of the table
abbrev pub AreMarks : List Mark → Type 0
AreMarks [] = ⊤
AreMarks (mark ∷ past) = (is_kind mark.kind ≡ true) × AreMarks past

-- Each is of a kind that stands in such an object's log, with the numbers that the table gives it.
abbrev pub AreOf : HookTarget → List Mark → Type 0
AreOf target [] = ⊤
AreOf target (mark ∷ past) = (stands_in target mark.kind ≡ true) × IsInTable mark × AreOf target past
