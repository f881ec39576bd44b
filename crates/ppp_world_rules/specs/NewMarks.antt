-- The marks of a log that weren't told yet.
use Rattle.std.specs.Prelude.{ℕ, List, drop}
use Rattle.ppp_mark.specs.declared.mark.Mark.{Mark}
use Rattle.ppp_mark.specs.Log.{LogState, marks_of}

-- the oldest first, all but so many
abbrev pub marks_since : ℕ → LogState → List Mark
marks_since told log = drop told (marks_of log)
