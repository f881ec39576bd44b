-- Pieces of octets that wait in a ring, each with a head. Each takes so many octets of room beside its own.
use Rattle.std.specs.Prelude.{ℕ, ◌≡◌, ◌≤◌, ◌+◌, ◌*◌, nat_le, Bool, if◌then◌else◌, List, [], ◌∷◌, ◌++◌, length, take, drop}

pub record Piece (T : Type 0) : Type 0 where
  pub head : T
  pub octets : List ℕ

-- the pieces that wait, the oldest first, what each takes beside its octets, and the most that all may take
pub record PiecesNow (T : Type 0) : Type 0 where
  pub waiting : List (Piece T)
  pub beside : ℕ
  pub most : ℕ

-- what pieces take
abbrev pub taken_by : {T : Type 0} → ℕ → List (Piece T) → ℕ
taken_by beside [] = 0
taken_by beside (piece ∷ pieces) = beside + length piece.octets + taken_by beside pieces

-- whether one more has room
abbrev pub fits : {T : Type 0} → Piece T → PiecesNow T → Bool
fits piece ring = nat_le (taken_by ring.beside (ring.waiting ++ piece ∷ [])) ring.most

-- with one more where it has room, and else as it was
abbrev pub with_piece : {T : Type 0} → Piece T → PiecesNow T → PiecesNow T
with_piece piece ring = if fits piece ring then record ring { waiting = ring.waiting ++ piece ∷ [] } else ring

-- the pieces of these heads and sizes, whose octets stand one behind the other
abbrev pub pieces_of : {T : Type 0} → List T → List ℕ → List ℕ → List (Piece T)
pieces_of [] sizes octets = []
pieces_of (head ∷ heads) [] octets = []
pieces_of (head ∷ heads) (size ∷ sizes) octets = record { head = head; octets = take size octets } ∷ pieces_of heads sizes (drop size octets)

abbrev pub total : List ℕ → ℕ
total [] = 0
total (size ∷ sizes) = size + total sizes

-- each size is this large at most
abbrev pub AreSmall : ℕ → List ℕ → Type 0
AreSmall most [] = Unit {0}
AreSmall most (size ∷ sizes) = (size ≤ most) × AreSmall most sizes

-- A ring's heads, sizes and octets belong together, and take no more than there is.
pub record AreKept {T : Type 0} (largest beside most : ℕ) (heads : List T) (sizes octets : List ℕ) : Type 0 where
  pub as_many : length heads ≡ length sizes
  pub sum : length octets ≡ total sizes
  pub small : AreSmall largest sizes
  pub some : 1 ≤ beside
  pub within : beside * length sizes + length octets ≤ most
