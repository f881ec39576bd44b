-- What has reached a bundle, and the packets that are made of it (RFC 1990, section 4).
use Rattle.std.specs.Prelude.{◌≡◌, ◌⊎◌, ℕ, ◌+◌, ◌<◌, ◌==◌, true, false, List, [], ◌∷◌, ◌++◌, length, Some, slice_get}
use Rattle.std.specs.List.{AllByRecursion}
use Rattle.ppp_mp.specs.Pieces.{Piece}
use Rattle.ppp_mp.specs.Membership.{is_member_in}
use Rattle.ppp_mp.specs.Delivered.{Entry, Joins, Leaves, Comes, Fragment, Gathering, Delivered, IsFull, numbered}

-- what came over a link: a piece with its full number, or a packet that isn't wrapped in pieces
pub data Reached : Type 0 where
  Brings : (link : ℕ) (piece : Piece) → Reached
  Unwrapped : (link : ℕ) (packet : List ℕ) → Reached

-- What has reached a bundle of these joins, leaves and pieces, newest first: each entry came over a link that was a
-- member at that moment, and a piece has the full number that it had then.
pub data HasReached (space mrru : ℕ) : List Entry → List Reached → Type 0 where
  nothing_yet : HasReached space mrru [] []
  after_join : {link : ℕ} {past : List Entry} {reached : List Reached} → HasReached space mrru past reached → HasReached space mrru (Joins link ∷ past) reached
  after_leave : {link : ℕ} {past : List Entry} {reached : List Reached} → HasReached space mrru past reached → HasReached space mrru (Leaves link ∷ past) reached
  brought : {link : ℕ} {fragment : Fragment} {past : List Entry} {reached : List Reached} (s : Gathering) (number : ℕ)
      → is_member_in link past ≡ true → Delivered space mrru past s → IsFull space s.least fragment.field number
      → HasReached space mrru past reached → HasReached space mrru (Comes link fragment ∷ past) (Brings link (numbered number fragment) ∷ reached)
  refused : {link : ℕ} {fragment : Fragment} {past : List Entry} {reached : List Reached}
      → is_member_in link past ≡ false → HasReached space mrru past reached → HasReached space mrru (Comes link fragment ∷ past) reached
  unwrapped : {link : ℕ} {packet : List ℕ} {past : List Entry} {reached : List Reached}
      → is_member_in link past ≡ true → HasReached space mrru past reached → HasReached space mrru past (Unwrapped link packet ∷ reached)

-- One of the entries is this piece.
abbrev pub CameAsPiece : List Reached → Piece → Type 0
CameAsPiece [] piece = ⊥
CameAsPiece (Brings link other ∷ reached) piece = (piece ≡ other) ⊎ CameAsPiece reached piece
CameAsPiece (Unwrapped link packet ∷ reached) piece = CameAsPiece reached piece

-- One of the entries is this packet, unwrapped.
abbrev pub CameUnwrapped : List Reached → List ℕ → Type 0
CameUnwrapped [] packet = ⊥
CameUnwrapped (Brings link piece ∷ reached) packet = CameUnwrapped reached packet
CameUnwrapped (Unwrapped link other ∷ reached) packet = (packet ≡ other) ⊎ CameUnwrapped reached packet

-- The pieces have consecutive full numbers, B at the first alone and E at the last alone.
pub record MakeAPacket (pieces : List Piece) : Type 0 where
  pub from : ℕ
  pub some : 0 < length pieces
  pub each : (i : ℕ) (piece : Piece) → slice_get pieces i ≡ Some piece → (piece.number ≡ from + i) × (piece.first ≡ (i == 0)) × (piece.last ≡ (i + 1 == length pieces))

abbrev pub octets_joined : List Piece → List ℕ
octets_joined [] = []
octets_joined (piece ∷ pieces) = piece.octets ++ octets_joined pieces

-- The packet is the joined octets of pieces that came.
pub record MadeOfPieces (reached : List Reached) (packet : List ℕ) : Type 0 where
  pub pieces : List Piece
  pub came : AllByRecursion (CameAsPiece reached) pieces
  pub make : MakeAPacket pieces
  pub octets : packet ≡ octets_joined pieces

-- A packet is whole: made of pieces that came, or one that came unwrapped.
abbrev pub Whole : (reached : List Reached) (packet : List ℕ) → Type 0
Whole reached packet = MadeOfPieces reached packet ⊎ CameUnwrapped reached packet
