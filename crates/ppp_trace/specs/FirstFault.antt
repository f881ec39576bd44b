-- What is wrong with octets that are no bare trace.
use Rattle.std.specs.Prelude.{◌≡◌, ◌≢◌, ℕ, ◌<◌, ◌≤◌, ◌+◌, ◌⊎◌, List, [], Some, length, codes, slice_get}
use Rattle.ppp_trace.specs.declared.fault.BadTrace.{BadTrace}
use Rattle.ppp_trace.specs.declared.fault.FaultKind.{FaultKind}
use Rattle.ppp_trace.specs.declared.fault.FaultKind.TheVariants as kind
use Rattle.ppp_trace.specs.declared.TheConstants.{MOST_LINE, MOST_STEPS}
use Rattle.ppp_mark.specs.Lines.{lines_of}
use Rattle.ppp_trace.specs.Steps.{IsNoStep}

-- Which of two faults of one line is told: the lower one.
abbrev pub rank : FaultKind → ℕ
rank kind.Size = 0
rank kind.Empty = 1
rank kind.Header = 2
rank kind.Step = 3
rank kind.Long = 4
rank kind.Steps = 5
rank kind.Options = 6
rank kind.Secrets = 7

-- What is wrong with the line of this number, of which the first is 1: the first one isn't the header, another one is no
-- step, it is too long, or it stands where no step may stand any more.
abbrev pub IsWrong : FaultKind → ℕ → List ℕ → Type 0
IsWrong kind.Size number line = ⊥
IsWrong kind.Empty number line = ⊥
IsWrong kind.Header number line = (number ≡ 1) × (line ≢ codes "bare")
IsWrong kind.Step number line = (1 < number) × IsNoStep line
IsWrong kind.Long number line = MOST_LINE < length line
IsWrong kind.Steps number line = MOST_STEPS + 1 < number
IsWrong kind.Options number line = ⊥
IsWrong kind.Secrets number line = ⊥

-- The line of this number is one of these lines, and this is wrong with it.
pub record HasWrongLine (lines : List (List ℕ)) (bad : BadTrace) : Type 0 where
  pub place : ℕ
  pub number : bad.line ≡ place + 1
  pub line : List ℕ
  pub stands : slice_get lines place ≡ Some line
  pub wrong : IsWrong bad.kind bad.line line

-- There are no octets.
pub record HasNothing (octets : List ℕ) (bad : BadTrace) : Type 0 where
  pub nothing : octets ≡ []
  pub line : bad.line ≡ 1
  pub kind : bad.kind ≡ kind.Empty

-- a fault of the octets
abbrev pub HasFault : List ℕ → BadTrace → Type 0
HasFault octets bad = HasNothing octets bad ⊎ HasWrongLine (lines_of octets) bad

-- The first fault is not behind the second: it has a lower line, or the same and no higher rank.
abbrev pub NotBehind : BadTrace → BadTrace → Type 0
NotBehind a b = (a.line < b.line) ⊎ ((a.line ≡ b.line) × (rank a.kind ≤ rank b.kind))

-- Of all faults of the octets this is the one on the least line, and of those the one of the lowest kind.
pub record FirstFault (octets : List ℕ) (bad : BadTrace) : Type 0 where
  pub is_fault : HasFault octets bad
  pub first : (other : BadTrace) → HasFault octets other → NotBehind bad other
