-- What a clause sees of a sink, and what one call of `write` does to it.
use Rattle.std.specs.Prelude.{◌≡◌, ℕ, ◌<◌, ◌≤◌, Bool, true, false, List, [], ◌∷◌, length, take, Option}
use Rattle.ppp_outside.specs.Contents.{HasNothing}
use Rattle.ppp_outside.specs.declared.sink.SinkNext.{SinkNext}
use Rattle.ppp_outside.specs.declared.sink.SinkNext.TheVariants.{Takes, Fails}
use Rattle.ppp_outside.specs.declared.sink.Took.{Took}
use Rattle.ppp_outside.specs.declared.sink.Took.TheVariants as took

-- the octets that were written, where the sink tells them; how often it has failed
pub record SinkState : Type 0 where
  pub written : Option (List ℕ)
  pub faults : ℕ

abbrev pub failed : Took → Bool
failed (took.Took n) = false
failed took.Failed = true

-- the octets of the piece that a write took
abbrev pub accepted : Took → List ℕ → List ℕ
accepted (took.Took n) piece = take n piece
accepted took.Failed piece = []

-- A write takes no more than the piece, and something of a piece that isn't empty.
abbrev pub FitsPiece : Took → List ℕ → Type 0
FitsPiece (took.Took n) piece = (n ≤ length piece) × (0 < length piece → 0 < n)
FitsPiece took.Failed piece = Unit {0}

-- A sink that was just made: it has never failed, and where it tells what was written, that is nothing.
pub record IsNewSink (sink : SinkState) : Type 0 where
  pub written : HasNothing sink.written
  pub faults : sink.faults ≡ 0

-- The write answers what was set: the whole piece is taken, or it fails.
abbrev pub AnswersAs : SinkNext → Took → List ℕ → Type 0
AnswersAs Takes answer piece = answer ≡ took.Took (length piece)
AnswersAs Fails answer piece = answer ≡ took.Failed

-- whether a whole text is taken by a sink whose next answer was set
abbrev pub takes_text : SinkNext → List ℕ → Bool
takes_text Takes text = true
takes_text Fails [] = true
takes_text Fails (octet ∷ rest) = false
