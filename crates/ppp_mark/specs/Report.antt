-- The text of a report: the sections of its logs, and the line `end`.
use Rattle.std.specs.Prelude.{ℕ, Option, None, Some, List, [], ◌∷◌, ◌++◌, ⊤, codes}
use Rattle.std.specs.Fmt.{decimal}
use Rattle.ppp_mark.specs.declared.mark.Mark.{Mark}
use Rattle.ppp_mark.specs.declared.report.LogName.{LogName}
use Rattle.ppp_mark.specs.declared.report.LogName.TheVariants.{Link, Unit as OfUnit}
use Rattle.ppp_mark.specs.declared.report.ReportEnd.{ReportEnd}
use Rattle.ppp_mark.specs.declared.report.ReportEnd.TheVariants.{Done, Failed}
use Rattle.ppp_mark.specs.Table.{name_of}
use Rattle.ppp_outside.specs.Sink.{SinkState}
use Rattle.ppp_outside.specs.Writing.{Breaks, Writes}

-- time, name, x, y, z
abbrev pub mark_line : Mark → List ℕ
mark_line m =
    decimal m.time ++ codes " " ++ name_of m.kind ++ codes " " ++ decimal m.x ++ codes " " ++ decimal m.y ++ codes " " ++ decimal m.z ++ codes "\n"

-- the marks of a log, the oldest first
abbrev pub mark_lines : List Mark → List ℕ
mark_lines [] = []
mark_lines (m ∷ marks) = mark_line m ++ mark_lines marks

-- the number after a word, on a line of its own
abbrev pub word_line : List ℕ → ℕ → List ℕ
word_line word n = word ++ decimal n ++ codes "\n"

-- A log of a link has a status, one of a unit has none.
abbrev pub HasStatus : LogName → Option ℕ → Type 0
HasStatus (Link link) None = ⊥
HasStatus (Link link) (Some status) = ⊤
HasStatus (OfUnit unit) None = ⊤
HasStatus (OfUnit unit) (Some status) = ⊥

abbrev pub status_text : Option ℕ → List ℕ
status_text None = []
status_text (Some status) = word_line (codes "status ") status

-- The section of a log. A unit's log without marks has none.
abbrev pub section_text : LogName → List Mark → Option ℕ → List ℕ
section_text (Link link) marks status = word_line (codes "link ") link ++ mark_lines marks ++ status_text status
section_text (OfUnit unit) [] status = []
section_text (OfUnit unit) (m ∷ marks) status = word_line (codes "unit ") unit ++ mark_lines (m ∷ marks)

abbrev pub end_text : List ℕ
end_text = codes "end\n"

-- The text was written whole, or a front of it before the sink failed.
abbrev pub IsPut : ReportEnd → SinkState → SinkState → List ℕ → Type 0
IsPut Done old new text = Writes old new text
IsPut Failed old new text = Breaks old new text
