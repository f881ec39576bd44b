-- What is wrong with octets that are no lawful report: the first line at which something is.
use Rattle.std.specs.Prelude.{ℕ, ◌+◌, ◌<◌, ◌≤◌, ◌≡◌, ◌⊎◌, List, [], ◌∷◌, ◌++◌, is_some, length, take, drop, map, reverse}
use Rattle.ppp_hooks.specs.HookPast.{open_in}
use Rattle.ppp_mark.specs.declared.mark.Mark.{Mark}
use Rattle.ppp_mark.specs.declared.report.LogName.{LogName}
use Rattle.ppp_mark.specs.declared.report.LogName.TheVariants.{Link, Unit as OfUnit}
use Rattle.ppp_mark.specs.Lines.{lines_of}
use Rattle.ppp_mark.specs.Scripts.{LogLaw, LogSettled, said_in}
use Rattle.ppp_report.specs.Report.{AreFit, AreSections, IsObject, Section, end_word, heading, mark_word, report_lines, status_word}

-- these lines are the first ones of some report
pub record IsFront (lines : List (List ℕ)) : Type 0 where
  pub sections : List Section
  pub rest : List (List ℕ)
  pub are : AreSections 0 0 sections
  pub text : report_lines sections ≡ lines ++ rest

-- The line of this number is there, and is none that a report may have behind those before it.
pub record NoLine (lines : List (List ℕ)) (n : ℕ) : Type 0 where
  pub from_one : 0 < n
  pub there : n ≤ length lines
  pub other : ¬ IsFront (take n lines)

-- the lines up to this number, the last of them first
abbrev pub back : List (List ℕ) → ℕ → List (List ℕ)
back lines n = reverse (take n lines)

-- Read back, there are the lines of these marks, the newest first, and before them the heading of their object.
pub record AreMarksOf (name : LogName) (past : List Mark) (lines : List (List ℕ)) : Type 0 where
  pub object : IsObject name
  pub fit : AreFit name past
  pub earlier : List (List ℕ)
  pub text : lines ≡ map mark_word past ++ heading name ∷ earlier

-- At this line the law of site scripts fails in its log.
pub record BreaksLaw (lines : List (List ℕ)) (n : ℕ) : Type 0 where
  pub there : n ≤ length lines
  pub name : LogName
  pub past : List Mark
  pub marks : AreMarksOf name past (back lines n)
  pub breaks : ¬ LogLaw 0 past

-- While no script runs, the scripts of these marks don't agree with the protocol.
abbrev pub Disagrees : List Mark → Type 0
Disagrees past = ¬ LogSettled past (is_some (open_in (said_in past)))

-- With this line, that of its status, a link ends unsettled.
pub record LinkUnsettled (lines : List (List ℕ)) (n : ℕ) : Type 0 where
  pub there : n ≤ length lines
  pub link : ℕ
  pub past : List Mark
  pub status : ℕ
  pub before : List (List ℕ)
  pub line : back lines n ≡ status_word status ∷ before
  pub marks : AreMarksOf (Link link) past before
  pub unsettled : Disagrees past

-- With this line a unit ends unsettled: what follows is no mark of a unit, or nothing follows.
pub record UnitUnsettled (lines : List (List ℕ)) (n : ℕ) : Type 0 where
  pub there : n ≤ length lines
  pub unit : ℕ
  pub past : List Mark
  pub marks : AreMarksOf (OfUnit unit) past (back lines n)
  pub over : (m : Mark) (rest : List (List ℕ)) → AreFit (OfUnit unit) (m ∷ []) → drop n lines ≡ mark_word m ∷ rest → ⊥
  pub unsettled : Disagrees past

-- The last line isn't `end`. This is the number after it.
pub record NoEnd (lines : List (List ℕ)) (n : ℕ) : Type 0 where
  pub number : n ≡ length lines + 1
  pub other : (earlier : List (List ℕ)) → lines ≡ earlier ++ end_word ∷ [] → ⊥

-- something is wrong at this line
abbrev pub HasFault : List (List ℕ) → ℕ → Type 0
HasFault lines n = NoLine lines n ⊎ (BreaksLaw lines n ⊎ (LinkUnsettled lines n ⊎ (UnitUnsettled lines n ⊎ NoEnd lines n)))

-- This is the first line at which something is wrong.
pub record IsFirstBad (lines : List (List ℕ)) (n : ℕ) : Type 0 where
  pub fault : HasFault lines n
  pub first : (other : ℕ) → HasFault lines other → n ≤ other

abbrev pub BadLine : List ℕ → ℕ → Type 0
BadLine octets n = IsFirstBad (lines_of octets) n

-- Nothing is wrong at any line.
abbrev pub IsLawfulReport : List ℕ → Type 0
IsLawfulReport octets = (n : ℕ) → HasFault (lines_of octets) n → ⊥
