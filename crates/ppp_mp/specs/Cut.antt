-- How a packet is cut over the members of a bundle (RFC 1990, section 4: B at the first piece, E at the last; the sizes
-- and the order of the members are this project's own).
use Rattle.std.specs.Prelude.{◌≡◌, ℕ, ◌+◌, ◌-◌, ◌*◌, ◌/◌, ◌%◌, ◌<◌, ◌≤◌, ◌==◌, ◌||◌, min, nat_lt, not, if◌then◌else◌, List, [], ◌∷◌, ◌++◌, length, take, drop, slice_index_or}
use Rattle.std.specs.List.{fold}
use Rattle.ppp_mp.specs.declared.members.MemberView.{MemberView}
use Rattle.ppp_mp.specs.declared.cuts.CutPiece.{CutPiece}

-- the least of the members' `mru`
abbrev pub least_mru : List MemberView → ℕ
least_mru members = fold (λ least member. min least member.mru) 65535 members

-- a share of the whole for each member, rounded up; the whole where it is at most 128 octets, or one member is there
abbrev pub share : (len members : ℕ) → ℕ
share len members = if not (nat_lt 128 len) || members == 1 then len else (len + members - 1) / members

-- the size of all pieces but the last: what fits behind a header of so many octets, and at most a share
abbrev pub piece_size : (header len : ℕ) (members : List MemberView) → ℕ
piece_size header len members = min (least_mru members - header) (share len (length members))

-- Piece j begins where the one before it ended, and has the whole size or the rest. It goes to the member at position
-- turn + j, modulo the number of members.
pub record IsPiece (whole : ℕ) (members : List MemberView) (turn size j : ℕ) (piece : CutPiece) : Type 0 where
  pub place : piece.place ≡ j * size
  pub len : piece.len ≡ min size (whole - j * size)
  pub link : (other : MemberView) → piece.link ≡ (slice_index_or members ((turn + j) % length members) other).link

-- The pieces are the cut of a packet for headers of so many octets: each is as it should be, the last ends the packet, and none is empty.
pub record Cut (header len : ℕ) (members : List MemberView) (turn : ℕ) (pieces : List CutPiece) : Type 0 where
  pub each : (j : ℕ) → j < length pieces → (other : CutPiece) → IsPiece len members turn (piece_size header len members) j (slice_index_or pieces j other)
  pub ends : len ≤ length pieces * piece_size header len members
  pub none_empty : (length pieces - 1) * piece_size header len members < len

-- the octets of the pieces of a packet, joined
abbrev pub joined_pieces : (packet : List ℕ) → List CutPiece → List ℕ
joined_pieces packet [] = []
joined_pieces packet (piece ∷ pieces) = take piece.len (drop piece.place packet) ++ joined_pieces packet pieces
