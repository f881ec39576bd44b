-- What becomes of a text that goes to a sink in pieces.
use Rattle.std.specs.Prelude.{◌≡◌, ℕ, ◌≤◌, List, [], ◌++◌, length, take, Bool, true, false}
use Rattle.std.specs.Io.KnownBytes.{Appends, Keeps}
use Rattle.ppp_outside.specs.Counts.{Rose}
use Rattle.ppp_outside.specs.Sink.{SinkState}

-- The sink took the whole text, and didn't fail.
pub record Writes (old new : SinkState) (text : List ℕ) : Type 0 where
  pub whole : Appends old.written new.written text
  pub sound : new.faults ≡ old.faults

-- The sink took a front of the text and no more, and failed.
pub record Breaks (old new : SinkState) (text : List ℕ) : Type 0 where
  pub count : ℕ
  pub within : count ≤ length text
  pub front : Appends old.written new.written (take count text)
  pub fault : Rose old.faults new.faults

-- Nothing was written, and the sink didn't fail.
pub record Rests (old new : SinkState) : Type 0 where
  pub kept : Keeps old.written new.written
  pub sound : new.faults ≡ old.faults

-- a text on its way: what waits to be written, and whether the sink has taken all that was handed to it so far
pub record Pending : Type 0 where
  pub waiting : List ℕ
  pub sound : Bool

-- nothing waits
abbrev pub fresh : Pending
fresh = record { waiting = []; sound = true }

-- A text was put. While the sink is sound, what it took and what waits are together what waited before and the text.
-- Where it fails, it took a front of what waited before and the text. After that nothing more is written.
abbrev pub HowPut : Bool → Bool → List ℕ → List ℕ → SinkState → SinkState → List ℕ → Type 0
HowPut true true before after old new text =
    (taken : List ℕ) × Writes old new taken × (taken ++ after ≡ before ++ text)
HowPut true false before after old new text = Breaks old new (before ++ text)
HowPut false true before after old new text = ⊥
HowPut false false before after old new text = new ≡ old

pub record Puts (before after : Pending) (old new : SinkState) (text : List ℕ) : Type 0 where
  pub how : HowPut before.sound after.sound before.waiting after.waiting old new text
