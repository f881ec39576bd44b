-- The slots of waiting pieces: which numbers are kept, whatever slot each stands in. Numbers are full numbers modulo the
-- number space.
use Rattle.std.specs.Prelude.{◌≡◌, ◌≢◌, ◌⊎◌, ℕ, ◌+◌, ◌-◌, ◌%◌, ◌<◌, ◌==◌, ⊤, min, if◌then◌else◌, Bool, refl, List, [], ◌∷◌, length, Option, None, Some}
use Rattle.ppp_mp.specs.declared.slot_piece.SlotPiece.{SlotPiece}
use Rattle.ppp_mp.specs.declared.slot_piece.SlotView.{SlotView}

-- a piece with its number
pub record Slotted : Type 0 where
  pub number : ℕ
  pub piece : SlotPiece

pub record SlotsNow : Type 0 where
  pub slots : List (Option Slotted)
  -- how often a slot was looked at since the count began anew
  pub looks : ℕ

-- the piece that is kept with this number
abbrev pub kept_at : (number : ℕ) → List (Option Slotted) → Option SlotPiece
kept_at number [] = None
kept_at number (None ∷ slots) = kept_at number slots
kept_at number (Some slot ∷ slots) = if slot.number == number then Some slot.piece else kept_at number slots

abbrev pub view_of : SlotPiece → SlotView
view_of piece = record { first = piece.first; last = piece.last; len = piece.len }

-- one look more, up to the count's end
abbrev pub looked : ℕ → ℕ
looked looks = min (looks + 1) 4294967295

-- The numbers lie less than 128 from one another, modulo the number space.
abbrev pub AreNear : (space one other : ℕ) → Type 0
AreNear space one other = ((one + space - other) % space < 128) ⊎ ((other + space - one) % space < 128)

-- The number lies less than 128 from each that is kept.
abbrev pub IsNearAll : (space number : ℕ) → List (Option Slotted) → Type 0
IsNearAll space number slots = (other : ℕ) → other < space → kept_at other slots ≢ None → AreNear space number other

-- From the slot with this place on each number is below the number space, and stands in the slot of its rest by 128.
abbrev pub InRing : (space place : ℕ) → List (Option Slotted) → Type 0
InRing space place [] = ⊤
InRing space place (None ∷ slots) = InRing space (place + 1) slots
InRing space place (Some slot ∷ slots) = (slot.number % 128 ≡ place) × (slot.number < space) × InRing space (place + 1) slots

-- the piece of a slot, where it keeps this number
abbrev pub kept_in : (number : ℕ) → Option Slotted → Option SlotPiece
kept_in number None = None
kept_in number (Some slot) = if slot.number == number then Some slot.piece else None

-- a piece with these marks and octets
abbrev pub slot_piece : (first last : Bool) → List ℕ → SlotPiece
slot_piece first last octets = record { first = first; last = last; len = length octets; octets = octets; counted = refl }

-- what stands in a slot, where a piece waits there
abbrev pub slotted : (kept : Bool) (number : ℕ) (first last : Bool) → List ℕ → Option Slotted
slotted kept number first last octets = if kept then Some (record { number = number; piece = slot_piece first last octets }) else None

-- what stands in a slot where the piece with this number waits no longer
abbrev pub emptied : (number : ℕ) → Option Slotted → Option Slotted
emptied number None = None
emptied number (Some slot) = if slot.number == number then None else Some slot

abbrev pub octets_there : Option SlotPiece → List ℕ
octets_there None = []
octets_there (Some p) = p.octets
