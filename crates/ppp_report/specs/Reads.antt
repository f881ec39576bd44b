-- What a reader of the marks of one log answers.
use Rattle.std.specs.Prelude.{ℕ, ◌+◌, ◌≤◌, ◌≡◌, ◌==◌, ◌&&◌, ◌||◌, Bool, false, List, [], ◌∷◌, is_some, length}
use Rattle.ppp_hooks.specs.HookPast.{open_in}
use Rattle.ppp_mark.specs.declared.mark.Mark.{Mark}
use Rattle.ppp_mark.specs.declared.report.LogName.{LogName}
use Rattle.ppp_mark.specs.Lines.{lines_of}
use Rattle.ppp_mark.specs.Scripts.{LogLaw, LogSettled, is_open_kind, said_in}
use Rattle.ppp_report.specs.BadLine.{Disagrees}
use Rattle.ppp_report.specs.Report.{AreFit, mark_word}
use Rattle.ppp_report.specs.declared.section.MarksEnd.{MarksEnd}
use Rattle.ppp_report.specs.declared.section.MarksEnd.TheVariants as end

-- the lines of these marks, of which the newest is first here and last there, and then others
abbrev pub behind_marks : List Mark → List (List ℕ) → List (List ℕ)
behind_marks [] others = others
behind_marks (m ∷ past) others = behind_marks past (mark_word m ∷ others)

-- The first line is no mark of such an object.
abbrev pub BeginsOther : LogName → List ℕ → Type 0
BeginsOther of rest = (m : Mark) (others : List (List ℕ)) → AreFit of (m ∷ []) → lines_of rest ≡ mark_word m ∷ others → ⊥

-- how the marks end
abbrev pub HowEnd : MarksEnd → LogName → List Mark → List ℕ → Type 0
HowEnd end.Broken of [] rest = ⊥
HowEnd end.Broken of (m ∷ past) rest = LogLaw 0 past × ¬ LogLaw 0 (m ∷ past)
HowEnd end.Unsettled of past rest = LogLaw 0 past × BeginsOther of rest × Disagrees past
HowEnd end.Settled of past rest = LogLaw 0 past × BeginsOther of rest × LogSettled past (is_some (open_in (said_in past)))

-- The text begins with the lines of so many marks, and ends with this rest.
pub record ReadsMarks (of : LogName) (text rest : List ℕ) (count : ℕ) (end : MarksEnd) : Type 0 where
  pub past : List Mark
  pub fit : AreFit of past
  pub lines : lines_of text ≡ behind_marks past (lines_of rest)
  pub counted : count ≡ length past
  pub how : HowEnd end of past rest
  pub within : count + length rest ≤ length text

-- whether one of these marks opens the protocol under this number
abbrev pub opens_in : ℕ → List Mark → Bool
opens_in opening [] = false
opens_in opening (m ∷ marks) = (is_open_kind m.kind && m.z == opening) || opens_in opening marks
