-- What is printed of a run of a full trace: of each step its number and whether it was taken, then the new marks, what was written and what was given.
use Rattle.std.specs.Prelude.{ℕ, ◌+◌, Bool, Option, None, Some, List, [], ◌∷◌, ◌++◌, codes, if◌then◌else◌}
use Rattle.std.specs.List.{flat_map}
use Rattle.std.specs.Fmt.{decimal}
use Rattle.ppp_mark.specs.declared.mark.Mark.{Mark}
use Rattle.ppp_mark.specs.declared.report.LogName.{LogName}
use Rattle.ppp_mark.specs.Report.{mark_line}
use Rattle.ppp_report.specs.Report.{heading}
use Rattle.ppp_ring.specs.Pieces.{Piece}
use Rattle.ppp_trace.specs.MadeTrace.{hex_text}
use Rattle.ppp_trace.specs.declared.world_step.WorldStep.{WorldStep}
use Rattle.ppp_trace.specs.declared.world_step.WorldStep.TheVariants.{SentOk}
use Rattle.ppp_world_rules.specs.WorldPart.{Output}

-- a step's number, and whether it was taken
abbrev pub taken_line : ℕ → Bool → List ℕ
taken_line number taken = decimal number ++ (if taken then codes " taken\n" else codes " stale\n")

-- whose mark it is, and the mark
abbrev pub told_line : LogName × Mark → List ℕ
told_line told = codes " " ++ heading told.0 ++ codes " " ++ mark_line told.1

-- the link whose writing goes out: no other step writes any octets
abbrev pub writer_of : WorldStep → Option ℕ
writer_of (SentOk link) = Some link
writer_of other = None

-- the octets that a link wrote
abbrev pub written_line : Option ℕ → Option (List ℕ) → List ℕ
written_line None octets = []
written_line (Some link) None = []
written_line (Some link) (Some octets) = codes " link " ++ decimal link ++ codes " out " ++ hex_text octets ++ codes "\n"

-- octets behind a space, if there are any
abbrev pub spaced_hex : List ℕ → List ℕ
spaced_hex [] = []
spaced_hex (octet ∷ octets) = codes " " ++ hex_text (octet ∷ octets)

-- a datagram that a unit gave
abbrev pub given_line : Piece ℕ → List ℕ
given_line given = codes " unit " ++ decimal given.head ++ codes " give" ++ spaced_hex given.octets ++ codes "\n"

-- the lines of a step: its number, the new marks, what was written, what was given
abbrev pub step_text : ℕ → WorldStep → Output → List ℕ
step_text number step out =
    taken_line number out.answer.taken ++ flat_map told_line out.marks ++ written_line (writer_of step) out.answer.written ++ flat_map given_line out.given

-- the lines of steps with what each prints, of which the first has this number
abbrev pub run_text : ℕ → List WorldStep → List Output → List ℕ
run_text number [] outs = []
run_text number (step ∷ steps) [] = []
run_text number (step ∷ steps) (out ∷ outs) = step_text number step out ++ run_text (number + 1) steps outs
