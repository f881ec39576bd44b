-- What one turn of a reading does: the line is read once, and what came is numbered by how many octets it had given before.
use Rattle.std.specs.Prelude.{ℕ, ◌≡◌, ◌<◌, List, length, Option, None, Some, IfSome}
use Rattle.ppp_outside.specs.Counts.{raised}
use Rattle.ppp_outside.specs.Line.{AnswersAs, LineState, ReadsLine, given}
use Rattle.ppp_outside.specs.declared.line_in.LineAnswer.{LineAnswer}
use Rattle.ppp_outside.specs.declared.line_in.LineGot.{LineGot}
use Rattle.ppp_outside.specs.declared.line_in.LineGot.TheVariants as got
use Rattle.ppp_link.specs.ErrandValues.{PieceValue, ReadingState, ReadOverState}
use Rattle.ppp_link_rules.specs.declared.errand.ReadEnd.{ReadEnd}
use Rattle.ppp_link_rules.specs.declared.errand.ReadEnd.TheVariants as read
use Rattle.ppp_link.specs.declared.reading.ReadStep.{ReadStep}
use Rattle.ppp_link.specs.declared.reading.ReadStep.TheVariants as step

-- One read of a buffer of 1,024 octets was answered so, and as was set where that is told.
pub record ReadOnce {I : Type 0} (state : I → LineState) (coming : I → Option LineAnswer) (old new : I) (answer : LineGot) (buf : List ℕ) : Type 0 where
  pub room : length buf ≡ 1024
  pub reads : ReadsLine (state old) (state new) answer buf
  pub as_told : IfSome (coming old) (λ set. AnswersAs set answer buf)

-- Octets came, at least one: they stand behind what the line had given.
pub record IsPiece {I : Type 0} (state : I → LineState) (coming : I → Option LineAnswer) (old new : ReadingState I) (piece : PieceValue) : Type 0 where
  pub count : ℕ
  pub buf : List ℕ
  pub read : ReadOnce state coming old.input new.input (got.Got count) buf
  pub octets : piece.octets ≡ given (got.Got count) buf
  pub some : 0 < length piece.octets
  pub piece_is : piece ≡ record { link = old.link; session = old.session; offset = old.taken; octets = piece.octets }
  pub reading_is : new ≡ record old { taken = raised old.taken (length piece.octets); input = new.input }

-- Nothing came within the wait.
pub record IsQuiet {I : Type 0} (state : I → LineState) (coming : I → Option LineAnswer) (old new : ReadingState I) : Type 0 where
  pub buf : List ℕ
  pub read : ReadOnce state coming old.input new.input got.Quiet buf
  pub reading_is : new ≡ record old { input = new.input }

-- The line is at its end, or has failed.
abbrev pub answer_by : ReadEnd → Option LineGot
answer_by read.End = Some got.End
answer_by read.Failed = Some got.Failed
answer_by read.Left = None

pub record IsOver {I : Type 0} (state : I → LineState) (coming : I → Option LineAnswer) (old : ReadingState I) (new : ReadOverState I) : Type 0 where
  pub buf : List ℕ
  pub answer : LineGot
  pub by : answer_by new.end ≡ Some answer
  pub read : ReadOnce state coming old.input new.input answer buf
  pub over_is : new ≡ record { link = old.link; session = old.session; end = new.end; taken = old.taken; input = new.input }

abbrev pub Reads : {I : Type 0} → (I → LineState) → (I → Option LineAnswer) → ReadingState I → ReadStep I → Type 0
Reads state coming old (step.Piece new piece) = IsPiece state coming old new piece
Reads state coming old (step.Quiet new) = IsQuiet state coming old new
Reads state coming old (step.Over new) = IsOver state coming old new
