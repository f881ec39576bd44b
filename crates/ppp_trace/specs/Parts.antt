-- What the readers of a full trace's parts answer.
use Rattle.std.specs.Prelude.{◌≡◌, ℕ, ◌+◌, ◌<◌, ◌≤◌, ◌^◌, ⊤, Option, None, Some, Ok, List, ◌∷◌, codes, length, slice_get}
use Rattle.ppp_mark.specs.Lines.{lines_of}
use Rattle.ppp_secrets.specs.Reading.{secrets_of}
use Rattle.ppp_trace.specs.FullFault.{IsAt, IsErr, IsFirst, options_in}
use Rattle.ppp_trace.specs.FullSteps.{SpellsStep}
use Rattle.ppp_trace.specs.FullTrace.{FirstLong, Line, text_of}
use Rattle.ppp_trace.specs.Sections.{There}
use Rattle.ppp_trace.specs.declared.trace.ChapPart.{ChapPart}
use Rattle.ppp_trace.specs.declared.trace.OptionsPart.{OptionsPart}
use Rattle.ppp_trace.specs.declared.trace.PapPart.{PapPart}
use Rattle.ppp_trace.specs.declared.TheConstants.{MOST_FULL_STEPS}
use Rattle.ppp_trace.specs.declared.fault.BadTrace.{BadTrace}
use Rattle.ppp_trace.specs.declared.fault.FaultKind.TheVariants as kind
use Rattle.ppp_trace.specs.declared.fault.TraceFault.{TraceFault}
use Rattle.ppp_trace.specs.declared.fault.TraceFault.TheVariants as fault
use Rattle.ppp_trace.specs.declared.world_step.WorldStep.{WorldStep}

-- The options can't be read, or memory is wanting.
abbrev pub TellsOptions : ℕ → List ℕ → TraceFault → Type 0
TellsOptions line text (fault.Bad bad) = IsErr (options_in text) × (line < 2 ^ 32 → IsAt bad kind.Options line)
TellsOptions line text (fault.NoMemory memory) = ⊤

abbrev pub TellsSecrets : ℕ → List ℕ → TraceFault → Type 0
TellsSecrets line text (fault.Bad bad) = IsErr (secrets_of text) × (line < 2 ^ 32 → IsAt bad kind.Secrets line)
TellsSecrets line text (fault.NoMemory memory) = ⊤

-- Each line is a step, and they are not too many.
pub record AreSteps (links : ℕ) (lines : List Line) : Type 0 where
  pub few : length lines ≤ MOST_FULL_STEPS
  pub each : (place : ℕ) (line : Line) → slice_get lines place ≡ Some line → (s : WorldStep) × SpellsStep links s line

-- The first of these faults is told, or memory is wanting.
abbrev pub Tells : (BadTrace → Type 0) → TraceFault → Type 0
Tells Faults (fault.Bad bad) = IsFirst Faults bad
Tells Faults (fault.NoMemory memory) = ⊤

-- the line that is too long, where there is one
abbrev pub TellsLong : ℕ → Option ℕ → TraceFault → Type 0
TellsLong n None told = ⊥
TellsLong n (Some place) told = n + 1 + place < 2 ^ 32 → told ≡ fault.Bad (record { line = n + 1 + place; kind = kind.Long })

-- a section that is there, of which no line is too long
pub record IsWhole (name : Line) (lines own others : List Line) : Type 0 where
  pub line : Line
  pub there : There name lines line own others
  pub short : FirstLong (line ∷ own) None

-- the section `chap`, and steps
pub record ReadsChap (links : ℕ) (lines : List Line) (part : ChapPart) : Type 0 where
  pub own : List Line
  pub whole : IsWhole (codes "chap") lines own (lines_of part.steps.items)
  pub chap : secrets_of (text_of own) ≡ Ok part.chap
  pub steps : AreSteps links (lines_of part.steps.items)

-- the section `pap`, and what is behind it
pub record ReadsPap (links : ℕ) (lines : List Line) (part : PapPart) : Type 0 where
  pub own : List Line
  pub others : List Line
  pub whole : IsWhole (codes "pap") lines own others
  pub pap : secrets_of (text_of own) ≡ Ok part.pap
  pub behind : ReadsChap links others part.behind

-- the section `options`, and what is behind it
pub record ReadsOptions (lines : List Line) (part : OptionsPart) : Type 0 where
  pub own : List Line
  pub others : List Line
  pub whole : IsWhole (codes "options") lines own others
  pub config : options_in (text_of own) ≡ Ok part.config
  pub behind : ReadsPap (length part.config.links) others part.behind
