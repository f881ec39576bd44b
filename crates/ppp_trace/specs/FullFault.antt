-- What is wrong with octets that are no full trace.
use Rattle.std.specs.Prelude.{◌≡◌, ℕ, ◌+◌, ◌<◌, ◌≤◌, ◌^◌, ◌⊎◌, Some, Result, Ok, Err, List, [], ◌∷◌, ◌++◌, length, codes, slice_get}
use Rattle.std.specs.Fmt.{decimal}
use Rattle.ppp_mark.specs.Lines.{lines_of}
use Rattle.ppp_option_words.specs.ConfigValues.{ConfigValues}
use Rattle.ppp_option_words.specs.declared.fault.OptionsFault.{OptionsFault}
use Rattle.ppp_options.specs.OptionsText.{OptionsOf}
use Rattle.ppp_secrets.specs.Reading.{secrets_of}
use Rattle.ppp_trace.specs.FirstFault.{NotBehind}
use Rattle.ppp_trace.specs.FullSteps.{IsNoFullStep}
use Rattle.ppp_trace.specs.FullTrace.{IsLong, IsSection, Line, NoSection, SaysCount, text_of}
use Rattle.ppp_trace.specs.declared.TheConstants.{MOST_FULL_STEPS, MOST_OCTETS}
use Rattle.ppp_trace.specs.declared.fault.BadTrace.{BadTrace}
use Rattle.ppp_trace.specs.declared.fault.FaultKind.{FaultKind}
use Rattle.ppp_trace.specs.declared.fault.FaultKind.TheVariants as kind

-- the fault of this kind at this line
abbrev pub IsAt : BadTrace → FaultKind → ℕ → Type 0
IsAt bad kind line = (bad.kind ≡ kind) × (bad.line ≡ line)

-- The lines begin with a section's line and its own lines: as many as it says, or all that are left, which are fewer.
pub record HasLines (name : Line) (lines : List Line) (line : Line) (own others : List Line) : Type 0 where
  pub n : ℕ
  pub says : SaysCount name line n
  pub text : lines ≡ line ∷ (own ++ others)
  pub all : (length own ≡ n) ⊎ ((length own < n) × (others ≡ []))

-- A section's line is missing or is none, or lines of it are missing, which is told of the line behind the last.
abbrev pub MissesSection : Line → ℕ → List Line → BadTrace → Type 0
MissesSection name n lines bad =
    (NoSection name lines × IsAt bad kind.Header (n + 1))
    ⊎ ((line : Line) × (own : List Line) × (count : ℕ) × SaysCount name line count × (length own < count) × (lines ≡ line ∷ own) × IsAt bad kind.Header (n + length own + 2))

-- A line of the section is too long.
abbrev pub HasLongLine : Line → ℕ → List Line → BadTrace → Type 0
HasLongLine name n lines bad =
    (line : Line) × (own : List Line) × (others : List Line) × HasLines name lines line own others × (place : ℕ) × IsLong (line ∷ own) place × IsAt bad kind.Long (n + 1 + place)

-- The section is there, but its own lines are wrong, which is told of its line.
abbrev pub IsWrongSection : Line → FaultKind → (List Line → Type 0) → ℕ → List Line → BadTrace → Type 0
IsWrongSection name kind Wrong n lines bad = (own : List Line) × (others : List Line) × IsSection name lines own others × Wrong own × IsAt bad kind (n + 1)

-- The section is there, and behind it something is wrong.
abbrev pub IsBehind : Line → (List Line → ℕ → List Line → BadTrace → Type 0) → ℕ → List Line → BadTrace → Type 0
IsBehind name Next n lines bad = (own : List Line) × (others : List Line) × IsSection name lines own others × Next own (n + 1 + length own) others bad

-- what is wrong from a section on, before which so many lines stand
abbrev pub InSection : Line → FaultKind → (List Line → Type 0) → (List Line → ℕ → List Line → BadTrace → Type 0) → ℕ → List Line → BadTrace → Type 0
InSection name kind Wrong Next n lines bad =
    MissesSection name n lines bad ⊎ (HasLongLine name n lines bad ⊎ (IsWrongSection name kind Wrong n lines bad ⊎ IsBehind name Next n lines bad))

-- The options are read as one file over no files: no word of them finds one.
abbrev pub options_in : List ℕ → Result ConfigValues OptionsFault
options_in text = OptionsOf text

-- what could not be read
abbrev pub IsErr : {X E : Type 0} → Result X E → Type 0
IsErr (Ok x) = ⊥
IsErr (Err fault) = Unit {0}

abbrev pub AreNoOptions : List Line → Type 0
AreNoOptions own = IsErr (options_in (text_of own))

abbrev pub AreNoSecrets : List Line → Type 0
AreNoSecrets own = IsErr (secrets_of (text_of own))

-- how many links the options have
abbrev pub links_in : Result ConfigValues OptionsFault → ℕ
links_in (Ok config) = length config.links
links_in (Err fault) = 0

-- a line that is no step, or a step past the limit
abbrev pub IsWrongStep : (links n : ℕ) → List Line → BadTrace → Type 0
IsWrongStep links n lines bad =
    ((place : ℕ) × (line : Line) × (slice_get lines place ≡ Some line) × IsNoFullStep links line × IsAt bad kind.Step (n + 1 + place))
    ⊎ ((place : ℕ) × (line : Line) × (MOST_FULL_STEPS ≤ place) × (slice_get lines place ≡ Some line) × IsAt bad kind.Steps (n + 1 + place))

-- The sections in their order, and the steps.
abbrev pub InChap : ℕ → ℕ → List Line → BadTrace → Type 0
InChap links = InSection (codes "chap") kind.Secrets AreNoSecrets (λ chap. IsWrongStep links)

abbrev pub InPap : ℕ → ℕ → List Line → BadTrace → Type 0
InPap links = InSection (codes "pap") kind.Secrets AreNoSecrets (λ pap. InChap links)

abbrev pub InOptions : ℕ → List Line → BadTrace → Type 0
InOptions = InSection (codes "options") kind.Options AreNoOptions (λ options. InPap (links_in (options_in (text_of options))))

-- the first line
abbrev pub full_line : ℕ → Line
full_line seed = codes "full " ++ decimal seed

abbrev pub NoHeader : List Line → Type 0
NoHeader lines = (seed : ℕ) (others : List Line) → seed < 2 ^ 64 → lines ≡ full_line seed ∷ others → ⊥

-- any fault of the octets
abbrev pub HasFullFault : List ℕ → BadTrace → Type 0
HasFullFault octets bad =
    ((MOST_OCTETS < length octets) × IsAt bad kind.Size 0)
    ⊎ (((octets ≡ []) × IsAt bad kind.Empty 1)
    ⊎ ((NoHeader (lines_of octets) × IsAt bad kind.Header 1)
    ⊎ ((seed : ℕ) × (others : List Line) × (seed < 2 ^ 64) × (lines_of octets ≡ full_line seed ∷ others) × InOptions 1 others bad)))

-- Of these faults this is the first one.
pub record IsFirst (Faults : BadTrace → Type 0) (bad : BadTrace) : Type 0 where
  pub is_fault : Faults bad
  pub first : (other : BadTrace) → Faults other → NotBehind bad other
