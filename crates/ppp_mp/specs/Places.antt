-- The places of waiting pieces, counted from the least number that isn't settled.
use Rattle.std.specs.Prelude.{◌≡◌, ◌≢◌, ◌<◌, ◌≤◌, ◌==◌, max, min, map, nat_lt, not, if◌then◌else◌, Bool, true, false, ℕ, ◌+◌, ◌-◌, ◌*◌, ◌%◌, zero, suc, List, [], ◌++◌, Option, None, Some, slice_index_or}
use Rattle.std.specs.List.{range_with_len}
use Rattle.ppp_mp.specs.Ring.{Slotted, kept_at, octets_there}
use Rattle.ppp_mp.specs.declared.slot_piece.SlotPiece.{SlotPiece}
use Rattle.ppp_mp.specs.declared.places.RuleNow.{RuleNow}
use Rattle.ppp_mp.specs.declared.places.RuleNow.TheVariants.{Rests, Misses, Loses, Completes}

pub record PlacesNow : Type 0 where
  -- the least number that isn't settled, modulo the number space
  pub base : ℕ
  -- for each of the 128 numbers from there on the piece that waits
  pub pieces : List (Option SlotPiece)
  pub looks : ℕ
  -- no piece waits at this place or behind it
  pub end : ℕ

-- the pieces that wait in slots, for each of the 128 numbers from the base on
unfoldable pub pieces_from : (space base : ℕ) → List (Option Slotted) → List (Option SlotPiece)
pieces_from space base slots = map (λ i. kept_at ((base + i) % space) slots) (range_with_len 0 128)

-- All numbers that are kept are among the 128 from the base on, and there between two places.
pub record IsWindow (space base gap end : ℕ) (slots : List (Option Slotted)) : Type 0 where
  pub based : base < space
  pub low_within : gap ≤ 128
  pub high_within : end ≤ 128
  pub low : (i : ℕ) → i < gap → kept_at ((base + i) % space) slots ≡ None
  pub high : (i : ℕ) → end ≤ i → i < 128 → kept_at ((base + i) % space) slots ≡ None
  pub window : (number : ℕ) → number < space → kept_at number slots ≢ None → (number + space - base) % space < 128

-- the piece at a place, where one waits there
abbrev pub place : List (Option SlotPiece) → ℕ → Option SlotPiece
place places i = slice_index_or places i None

-- the octets of the pieces at the first so many places, joined
abbrev pub joined_there : List (Option SlotPiece) → ℕ → List ℕ
joined_there places zero = []
joined_there places (suc len) = joined_there places len ++ octets_there (place places len)

-- Piece i of a run from the first place on is there: B at the first alone, and no E.
abbrev pub IsThere : List (Option SlotPiece) → ℕ → Type 0
IsThere places i = (p : SlotPiece) × (place places i ≡ Some p) × (p.first ≡ (i == 0)) × (p.last ≡ false)

abbrev pub BegunThere : List (Option SlotPiece) → ℕ → Type 0
BegunThere places len = (i : ℕ) → i < len → IsThere places i

abbrev pub goes_on_there : SlotPiece → ℕ → Bool
goes_on_there p len = if len == 0 then p.first else not p.first

-- the rule that applies where so many pieces begin a packet and this stands behind them
abbrev pub rule_at : (bound len : ℕ) → Option SlotPiece → RuleNow
rule_at bound len None = if nat_lt len bound then Loses (len + 1) else Rests
rule_at bound len (Some p) = if goes_on_there p len then (if p.last then Completes (len + 1) else Rests) else Loses (max len 1)

-- The rule that applies is this.
pub record Scanned (places : List (Option SlotPiece)) (bound : ℕ) (rule : RuleNow) : Type 0 where
  pub len : ℕ
  pub within : len < 129
  pub begun : BegunThere places len
  pub is : rule_at bound len (place places len) ≡ rule
  pub rests : rule ≡ Rests → place places len ≡ None

-- The first so many places are empty, and their numbers are below the bound. They are all that are missing in front: a
-- piece waits behind them, or the bound doesn't reach further.
pub record AreMissing (places : List (Option SlotPiece)) (bound count : ℕ) : Type 0 where
  pub some : 0 < count
  pub below : count ≤ bound
  pub none : (i : ℕ) → i < count → place places i ≡ None
  pub whole : count < bound → place places count ≢ None

-- A missing stretch at the front is lost at once. Else one rule applies, or none.
abbrev pub Found : (places : List (Option SlotPiece)) (bound : ℕ) → RuleNow → Type 0
Found places bound Rests = Scanned places bound Rests
Found places bound (Misses count) = AreMissing places bound count
Found places bound (Loses count) = Scanned places bound (Loses count)
Found places bound (Completes count) = Scanned places bound (Completes count)

-- how many of the first so many places pass a test
abbrev pub tally : (Option SlotPiece → Bool) → List (Option SlotPiece) → ℕ → ℕ
tally test places zero = 0
tally test places (suc n) = tally test places n + (if test (place places n) then 1 else 0)

-- whether a piece is there
abbrev pub waits : Option SlotPiece → Bool
waits None = false
waits (Some p) = true

-- whether a piece with E is there
abbrev pub ends : Option SlotPiece → Bool
ends None = false
ends (Some p) = p.last

-- how often slots were looked at to find the rule
abbrev pub HasLooked : (old new : PlacesNow) → RuleNow → Type 0
HasLooked old new Rests = new.looks ≤ old.looks + old.end + 1
HasLooked old new (Misses count) = new.looks ≤ old.looks + 2 * min count old.end
HasLooked old new (Loses count) = new.looks ≤ old.looks + 2 * min count old.end
HasLooked old new (Completes count) = new.looks ≤ old.looks + 2 * min count old.end

-- how often slots were looked at for a missing number behind so many pieces
abbrev pub HasMissed : (old new : PlacesNow) (len : ℕ) → RuleNow → Type 0
HasMissed old new len Rests = new.looks ≤ old.looks
HasMissed old new len (Misses count) = (len ≡ 0) × (new.looks ≤ old.looks + min count old.end)
HasMissed old new len (Loses count) = (1 ≤ len) × (count ≡ len + 1) × (new.looks ≤ old.looks)
HasMissed old new len (Completes count) = ⊥

-- So many numbers are settled, with a look at each piece of theirs that waited.
pub record HasShifted (space : ℕ) (old new : PlacesNow) (count : ℕ) : Type 0 where
  pub base : new.base ≡ (old.base + count) % space
  pub pieces : (j : ℕ) → place new.pieces j ≡ place old.pieces (j + count)
  pub end : new.end ≡ old.end - count
  pub looks : new.looks ≤ old.looks + min count old.end
  pub rose : old.looks ≤ new.looks
