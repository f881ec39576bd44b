-- Where the reader of a report stands, for its private functions: what it has seen has no fault, and what may follow.
use Rattle.std.specs.Prelude.{Bool, true, false, is_some, ℕ, ◌≡◌, ◌<◌, ◌≤◌, ◌↔◌, List, [], ◌∷◌, ◌++◌, Option, length, map}
use Rattle.ppp_mark.specs.declared.mark.Mark.{Mark}
use Rattle.ppp_mark.specs.declared.report.LogName.{LogName}
use Rattle.ppp_mark.specs.Scripts.{LogLaw, LogSettled, said_in}
use Rattle.ppp_hooks.specs.HookPast.{open_in}
use Rattle.ppp_report.specs.BadLine.{AreMarksOf, BreaksLaw, Disagrees, HasFault, LinkUnsettled, NoLine}
use Rattle.ppp_report.specs.Report.{AreFit, AreSections, Fills, Section, end_word, least_after, links_after, mark_word, report_lines, status_lines}

abbrev pub Line : Type 0
Line = List ℕ

-- lines that were seen, the last of them first, and then others
abbrev pub onto : List Line → List Line → List Line
onto [] tail = tail
onto (l ∷ seen) tail = onto seen (l ∷ tail)

-- these are the rest of a report, behind so many links and units below `least`
pub record FromNext (links least : ℕ) (tail : List Line) : Type 0 where
  pub sections : List Section
  pub are : AreSections links least sections
  pub text : tail ≡ report_lines sections

-- these are the rest of a report, behind the heading of this object and these marks
pub record FromMarks (links least : ℕ) (name : LogName) (past : List Mark) (tail : List Line) : Type 0 where
  pub marks : List Mark
  pub status : Option ℕ
  pub sections : List Section
  pub fit : AreFit name marks
  pub fills : Fills name (past ++ marks) status
  pub are : AreSections (links_after links name) (least_after least name) sections
  pub text : tail ≡ map mark_word marks ++ (status_lines status ++ report_lines sections)

-- Behind the heading of an object and these marks of it, which keep the law; while no other line follows it may still end unsettled.
pub record In (lines : List Line) (links least : ℕ) (name : LogName) (past : List Mark) (rest : List Line) (count : ℕ) : Type 0 where
  pub seen : List Line
  pub is : lines ≡ onto seen rest
  pub counted : count ≡ length seen
  pub before : (n : ℕ) → n < count → HasFault lines n → ⊥
  pub front : NoLine lines count → ⊥
  pub lawful : BreaksLaw lines count → ⊥
  pub no_link : LinkUnsettled lines count → ⊥
  pub latest : (other : LogName) (marks : List Mark) → AreMarksOf other marks seen → (other ≡ name) × (marks ≡ past)
  pub marks : AreMarksOf name past seen
  pub law : LogLaw 0 past
  pub fits : (tail : List Line) → FromNext 0 0 (onto seen tail) ↔ FromMarks links least name past tail

-- Behind whole sections.
pub record At (lines : List Line) (links least : ℕ) (rest : List Line) (count : ℕ) : Type 0 where
  pub seen : List Line
  pub is : lines ≡ onto seen rest
  pub counted : count ≡ length seen
  pub clean : (n : ℕ) → n ≤ count → HasFault lines n → ⊥
  pub fits : (line : Line) (more tail : List Line) → rest ≡ line ∷ more → FromNext 0 0 (onto seen (line ∷ tail)) ↔ FromNext links least (line ∷ tail)
  pub no_end : (earlier : List Line) → seen ≡ end_word ∷ earlier → ⊥

-- whether the scripts of these marks agree with the protocol
abbrev pub IsSettledAs : Bool → List Mark → Type 0
IsSettledAs true past = LogSettled past (is_some (open_in (said_in past)))
IsSettledAs false past = Disagrees past
