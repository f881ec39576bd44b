-- What a reader of sections answers.
use Rattle.std.specs.Prelude.{◌≡◌, ◌≢◌, ◌+◌, ◌⊎◌, ⊤, ℕ, ◌<◌, ◌≤◌, true, false, Option, None, Some, nat_lt, if◌then◌else◌, List, [], ◌∷◌, ◌++◌, length}
use Rattle.ppp_mark.specs.Lines.{lines_of}
use Rattle.ppp_trace.specs.declared.TheConstants.{MOST_LINE}
use Rattle.ppp_trace.specs.FullFault.{IsAt}
use Rattle.ppp_trace.specs.FullTrace.{FirstLong, IsLong, Line, NoSection, SaysCount, text_of}
use Rattle.ppp_trace.specs.declared.fault.BadTrace.{BadTrace}
use Rattle.ppp_trace.specs.declared.fault.FaultKind.TheVariants as kind
use Rattle.ppp_trace.specs.declared.fault.TraceFault.{TraceFault}
use Rattle.ppp_trace.specs.declared.fault.TraceFault.TheVariants as fault
use Rattle.ppp_trace.specs.declared.sections.Section.{Section}
use Rattle.ppp_trace.specs.declared.sections.TakenLines.{TakenLines}

-- So many lines were taken at most, and fewer only at the text's end.
pub record TakesLines (text : List ℕ) (most : ℕ) (taken : TakenLines) : Type 0 where
  pub own : List Line
  pub lines : lines_of text ≡ own ++ lines_of taken.rest.now
  pub copied : taken.text.items ≡ text_of own
  pub counted : taken.count ≡ length own
  pub within : length own ≤ most
  pub ended : length own < most → taken.rest.now ≡ []
  pub long : FirstLong own taken.long

-- the first place of a line that is too long, with this line at this place
abbrev pub with_long : Option ℕ → Line → ℕ → Option ℕ
with_long None line place = if nat_lt MOST_LINE (length line) then Some place else None
with_long (Some first) line place = Some first

-- The lines begin with the line of this section. Its own lines follow, as many as it says or all that there are.
pub record ReadsSection (name : Line) (lines : List Line) (s : Section) : Type 0 where
  pub line : Line
  pub own : List Line
  pub n : ℕ
  pub says : SaysCount name line n
  pub text : lines ≡ line ∷ (own ++ lines_of s.rest.now)
  pub copied : s.text.items ≡ text_of own
  pub counted : s.count ≡ length own
  pub whole : s.whole ≡ true → length own ≡ n
  pub lacks : s.whole ≡ false → (length own < n) × (s.rest.now ≡ [])
  pub long : FirstLong (line ∷ own) s.long

-- a section that is there, with what follows it
pub record There (name : Line) (lines : List Line) (line : Line) (own others : List Line) : Type 0 where
  pub says : SaysCount name line (length own)
  pub text : lines ≡ line ∷ (own ++ others)

-- Lines of the section are missing: what is told is its first line that is too long, or else the line behind the last.
abbrev pub LacksFault : ℕ → Line → List Line → BadTrace → Type 0
LacksFault n line own bad =
    (FirstLong (line ∷ own) None × IsAt bad kind.Header (n + length own + 2)) ⊎ ((place : ℕ) × FirstLong (line ∷ own) (Some place) × IsAt bad kind.Long (n + 1 + place))

-- what is told where no section of this name begins the lines, lines of it are missing, or its own line is too long
abbrev pub StartFault : Line → ℕ → List Line → BadTrace → Type 0
StartFault name n lines bad =
    (NoSection name lines × IsAt bad kind.Header (n + 1))
    ⊎ (((line : Line) × (own : List Line) × (count : ℕ) × SaysCount name line count × (length own < count) × (lines ≡ line ∷ own) × LacksFault n line own bad)
    ⊎ ((line : Line) × (own : List Line) × (others : List Line) × There name lines line own others × IsLong (line ∷ own) 0 × IsAt bad kind.Long (n + 1)))

abbrev pub TellsStart : Line → ℕ → List Line → TraceFault → Type 0
TellsStart name n lines (fault.Bad bad) = StartFault name n lines bad
TellsStart name n lines (fault.NoMemory memory) = ⊤

-- A section was read whole, and its own line isn't too long.
pub record StartsWith (name : Line) (lines : List Line) (s : Section) : Type 0 where
  pub line : Line
  pub own : List Line
  pub there : There name lines line own (lines_of s.rest.now)
  pub copied : s.text.items ≡ text_of own
  pub counted : s.count ≡ length own
  pub long : FirstLong (line ∷ own) s.long
  pub short : s.long ≢ Some 0
