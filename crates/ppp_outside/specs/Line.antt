-- What a clause sees of the reading half of a line, and what one call of `read` does to it.
use Rattle.std.specs.Prelude.{◌≡◌, ℕ, zero, suc, ◌<◌, ◌≤◌, min, Bool, true, false, List, [], ◌∷◌, length, take, Option}
use Rattle.std.specs.Io.KnownBytes.{Consumes, IsAtEnd}
use Rattle.ppp_outside.specs.Contents.{GrowsBy, GrowsWhereTold, HasNothing}
use Rattle.ppp_outside.specs.Counts.{CountsFault, counted, raised}
use Rattle.ppp_outside.specs.declared.line_in.LineAnswer.{LineAnswer}
use Rattle.ppp_outside.specs.declared.line_in.LineAnswer.TheVariants as told
use Rattle.ppp_outside.specs.declared.line_in.LineGot.{LineGot}
use Rattle.ppp_outside.specs.declared.line_in.LineGot.TheVariants as got

-- the octets that are left, where the line tells them; how many it has given; how often it has failed, was quiet and was
-- at its end; its answers, the oldest first, where it tells them
pub record LineState : Type 0 where
  pub left : Option (List ℕ)
  pub taken : ℕ
  pub faults : ℕ
  pub quiets : ℕ
  pub ends : ℕ
  pub answers : Option (List LineAnswer)

abbrev pub failed : LineGot → Bool
failed (got.Got n) = false
failed got.Quiet = false
failed got.End = false
failed got.Failed = true

abbrev pub is_quiet : LineGot → Bool
is_quiet (got.Got n) = false
is_quiet got.Quiet = true
is_quiet got.End = false
is_quiet got.Failed = false

abbrev pub is_end : LineGot → Bool
is_end (got.Got n) = false
is_end got.Quiet = false
is_end got.End = true
is_end got.Failed = false

-- the octets that a read gave, which stand at the front of its buffer
abbrev pub given : LineGot → List ℕ → List ℕ
given (got.Got n) buf = take n buf
given got.Quiet buf = []
given got.End buf = []
given got.Failed buf = []

-- the answer with the octets that it gave
abbrev pub answer_with : LineGot → List ℕ → LineAnswer
answer_with (got.Got n) buf = told.Got (take n buf)
answer_with got.Quiet buf = told.Quiet
answer_with got.End buf = told.End
answer_with got.Failed buf = told.Failed

-- A read that gives octets gives at least one, and no more than there is room for.
abbrev pub FitsBuffer : LineGot → List ℕ → Type 0
FitsBuffer (got.Got n) buf = (0 < n) × (n ≤ length buf)
FitsBuffer got.Quiet buf = Unit {0}
FitsBuffer got.End buf = Unit {0}
FitsBuffer got.Failed buf = Unit {0}

-- At its end a line has nothing left.
abbrev pub EndsEmpty : LineGot → Option (List ℕ) → Type 0
EndsEmpty (got.Got n) left = Unit {0}
EndsEmpty got.Quiet left = Unit {0}
EndsEmpty got.End left = IsAtEnd left
EndsEmpty got.Failed left = Unit {0}

-- Its answers, where told, grow by this one. A call that fails may be one for which there is no room; from then on they
-- aren't told.
abbrev pub AnswersAfter : LineAnswer → Option (List LineAnswer) → Option (List LineAnswer) → Type 0
AnswersAfter (told.Got octets) before now = GrowsBy (told.Got octets ∷ []) before now
AnswersAfter told.Quiet before now = GrowsBy (told.Quiet ∷ []) before now
AnswersAfter told.End before now = GrowsBy (told.End ∷ []) before now
AnswersAfter told.Failed before now = GrowsWhereTold (told.Failed ∷ []) before now

-- One read, after which the buffer is `buf`.
pub record ReadsLine (old new : LineState) (answer : LineGot) (buf : List ℕ) : Type 0 where
  pub fits : FitsBuffer answer buf
  pub left : Consumes old.left new.left (given answer buf)
  pub ends_empty : EndsEmpty answer new.left
  pub taken : new.taken ≡ raised old.taken (length (given answer buf))
  pub faults : CountsFault (failed answer) old.faults new.faults
  pub quiets : new.quiets ≡ counted (is_quiet answer) old.quiets
  pub ends : new.ends ≡ counted (is_end answer) old.ends
  pub answers : AnswersAfter (answer_with answer buf) old.answers new.answers

-- A line that was just dialled: its counts are 0, and it has given no answer.
pub record IsNewLine (line : LineState) : Type 0 where
  pub taken : line.taken ≡ 0
  pub faults : line.faults ≡ 0
  pub quiets : line.quiets ≡ 0
  pub ends : line.ends ≡ 0
  pub answers : HasNothing line.answers

-- how a read answers that gives as much of these octets as there is room for: quiet, where that is none
abbrev pub got_of : ℕ → LineGot
got_of zero = got.Quiet
got_of (suc n) = got.Got (suc n)

-- the answer that was set, into a buffer with so much room
abbrev pub answer_as : LineAnswer → ℕ → LineGot
answer_as (told.Got octets) room = got_of (min (length octets) room)
answer_as told.Quiet room = got.Quiet
answer_as told.End room = got.End
answer_as told.Failed room = got.Failed

-- the octets that it gives
abbrev pub octets_as : LineAnswer → ℕ → List ℕ
octets_as (told.Got octets) room = take room octets
octets_as told.Quiet room = []
octets_as told.End room = []
octets_as told.Failed room = []

-- The read answers what was set.
pub record AnswersAs (set : LineAnswer) (answer : LineGot) (buf : List ℕ) : Type 0 where
  pub answer_is : answer ≡ answer_as set (length buf)
  pub octets_are : given answer buf ≡ octets_as set (length buf)
