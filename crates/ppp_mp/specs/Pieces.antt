-- Pieces with their full numbers, and the packets that they make (RFC 1990, section 4).
use Rattle.std.specs.Prelude.{◌≡◌, ℕ, ◌+◌, ◌<◌, ◌≤◌, ◌==◌, zero, suc, Bool, true, false, List, [], ◌∷◌, ◌++◌, Option, None, Some, find}

-- A piece. Full numbers stand raised by the size of the number space, so that none is below 0.
pub record Piece : Type 0 where
  pub number : ℕ
  pub first : Bool
  pub last : Bool
  pub octets : List ℕ

-- the piece with this number
abbrev pub piece_at : ℕ → List Piece → Option Piece
piece_at n kept = find (λ (p : Piece). p.number == n) kept

abbrev pub octets_of : Option Piece → List ℕ
octets_of None = []
octets_of (Some p) = p.octets

-- the octets of so many pieces from number n on, joined
abbrev pub joined : (kept : List Piece) (n len : ℕ) → List ℕ
joined kept n zero = []
joined kept n (suc len) = joined kept n len ++ octets_of (piece_at (n + len) kept)

-- Piece i of a run from n is there: B at the first alone, and no E.
abbrev pub IsInside : (kept : List Piece) (n i : ℕ) → Type 0
IsInside kept n i = (p : Piece) × (piece_at (n + i) kept ≡ Some p) × (p.first ≡ (i == 0)) × (p.last ≡ false)

-- so many pieces from n on begin a packet, and don't end it
abbrev pub Begun : (kept : List Piece) (n len : ℕ) → Type 0
Begun kept n len = (i : ℕ) → i < len → IsInside kept n i

-- A packet is a run of what is kept: the joined octets of pieces with consecutive full numbers, B at the first alone, E at
-- the last alone.
pub record Run (kept : List Piece) (packet : List ℕ) : Type 0 where
  pub from : ℕ
  pub others : ℕ
  pub end : Piece
  pub begun : Begun kept from others
  pub ends : piece_at (from + others) kept ≡ Some end
  pub first : end.first ≡ (others == 0)
  pub last : end.last ≡ true
  pub octets : packet ≡ joined kept from (suc others)

-- The packets are runs, in the order of their numbers, and no number is in two of them: the first begins at `low` or
-- behind it, each other one behind the end of the one before, and all end below `high`.
abbrev pub AreInOrder : (kept : List Piece) (low high : ℕ) → List (List ℕ) → Type 0
AreInOrder kept low high [] = low ≤ high
AreInOrder kept low high (packet ∷ packets) = (run : Run kept packet) × (low ≤ run.from) × AreInOrder kept (run.from + suc run.others) high packets
