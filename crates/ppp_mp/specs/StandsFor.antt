-- What contracts see of a gatherer, and how it stands for what has reached a bundle.
use Rattle.std.specs.Prelude.{◌≡◌, ℕ, ◌+◌, ◌-◌, ◌%◌, ◌^◌, ◌≤◌, ⊤, min, List, [], ◌∷◌, ◌++◌, map, Option, None, option_map, IsSome, is_some, Bool, slice_index_or}
use Rattle.ppp_mp.specs.Pieces.{Piece, piece_at}
use Rattle.ppp_mp.specs.Delivered.{Gathering, Fragment, Entry, Comes, Delivered, Takes}
use Rattle.ppp_mp.specs.declared.counts.GatherCounts.{GatherCounts}
use Rattle.ppp_mp.specs.declared.counts.PieceNow.{PieceNow}

-- What a gatherer keeps: what waits, and how far each member has come.
pub record GatherNow : Type 0 where
  -- our MRRU
  pub mrru : ℕ
  -- the least number that isn't settled, modulo the number space
  pub least : ℕ
  -- the pieces that wait, in the order of their numbers, which are counted from the least number that isn't settled
  pub waiting : List Piece
  -- for each link how far beyond the least number it has brought pieces, where it is a member
  pub overs : List (Option ℕ)
  -- what was thrown away
  pub counts : GatherCounts
  -- how often a slot was looked at in the last call that gathers
  pub looks : ℕ

-- a waiting piece with its full number
abbrev pub full_piece : (least : ℕ) → Piece → Piece
full_piece least p = record p { number = least + p.number }

-- The numbers rise, from this one on.
abbrev pub AreRising : (low : ℕ) → List Piece → Type 0
AreRising low [] = ⊤
AreRising low (p ∷ pieces) = (low ≤ p.number) × AreRising (p.number + 1) pieces

-- a count stands still at the end of a u64
abbrev pub stopped : ℕ → ℕ
stopped n = min n (2 ^ 64 - 1)

abbrev pub counted : Gathering → GatherCounts
counted s = record { old = stopped s.old; doubled = stopped s.doubled; lost = stopped s.lost; too_long = stopped s.too_long }

-- for each link how far beyond the least number it has brought pieces, where it is a member
abbrev pub overs_of : Gathering → List (Option ℕ)
overs_of s = map (option_map (λ n. n - s.least)) s.brought

-- A gatherer keeps a gathering. What waits is what was kept with the least number that isn't settled or a greater one.
pub record KeepsNow (space : ℕ) (g : GatherNow) (s : Gathering) : Type 0 where
  pub least : g.least ≡ s.least % space
  pub raised : space ≤ s.least
  pub waiting : (i : ℕ) → piece_at (s.least + i) s.kept ≡ option_map (full_piece s.least) (piece_at i g.waiting)
  pub rising : AreRising 0 g.waiting
  pub overs : g.overs ≡ overs_of s
  pub counts : g.counts ≡ counted s

-- A gatherer stands for what has reached a bundle, newest first, and for what that leaves.
pub record StandsFor (space : ℕ) (g : GatherNow) (past : List Entry) (s : Gathering) : Type 0 where
  pub delivered : Delivered space g.mrru past s
  pub keeps : KeepsNow space g s

-- for each link whether it is a member
abbrev pub members_of : GatherNow → List Bool
members_of g = map is_some g.overs

-- A link has joined.
abbrev pub IsJoined : GatherNow → (link : ℕ) → Type 0
IsJoined g link = IsSome (slice_index_or g.overs (link - 1) None)

-- the same but for the looks
abbrev pub with_looks : ℕ → GatherNow → GatherNow
with_looks looks g = record g { looks = looks }

-- A gatherer stands for one entry more, and these packets were given by it.
abbrev pub Adds : (space : ℕ) (g : GatherNow) (past : List Entry) (s : Gathering) → Entry → List (List ℕ) → Type 0
Adds space g past s entry packets = (new : Gathering) × StandsFor space g (entry ∷ past) new × (new.given ≡ s.given ++ packets)

-- A gatherer stands for one piece more, this was answered, and these packets were given by it.
abbrev pub AddsPiece : (space : ℕ) (g : GatherNow) (past : List Entry) (s : Gathering) (link : ℕ) → Fragment → PieceNow → List (List ℕ) → Type 0
AddsPiece space g past s link fragment answer packets =
    (new : Gathering) × Takes space g.mrru s link fragment answer new × StandsFor space g (Comes link fragment ∷ past) new × (new.given ≡ s.given ++ packets)
