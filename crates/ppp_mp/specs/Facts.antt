-- What a gatherer's facts keep of a gathering, and what contracts see of them.
use Rattle.std.specs.Prelude.{◌≡◌, ℕ, ◌+◌, ◌%◌, ◌≤◌, List, [], ◌∷◌, Option, None, Some, option_map, map, is_some, Bool}
use Rattle.ppp_mp.specs.Pieces.{Piece, piece_at}
use Rattle.ppp_mp.specs.Delivered.{Gathering}
use Rattle.ppp_mp.specs.Places.{place}
use Rattle.ppp_mp.specs.StandsFor.{GatherNow, counted, overs_of}
use Rattle.ppp_mp.specs.declared.slot_piece.SlotPiece.{SlotPiece}
use Rattle.ppp_mp.specs.declared.facts.GatherFacts.{GatherFacts}

-- a waiting piece with its number
abbrev pub waiting : ℕ → SlotPiece → Piece
waiting n p = record { number = n; first = p.first; last = p.last; octets = p.octets }

-- the pieces that wait at these places, the first of which has this number
abbrev pub waiting_from : ℕ → List (Option SlotPiece) → List Piece
waiting_from n [] = []
waiting_from n (None ∷ places) = waiting_from (n + 1) places
waiting_from n (Some p ∷ places) = waiting n p ∷ waiting_from (n + 1) places

-- what contracts see
abbrev pub now_of : GatherFacts → GatherNow
now_of g = record { mrru = g.mrru; least = g.places.base; waiting = waiting_from 0 g.places.pieces; overs = g.overs; counts = g.counts; looks = g.places.looks }

-- The facts keep a gathering. All their numbers but the base are counted from the least number that isn't settled.
pub record KeepsFacts (space : ℕ) (g : GatherFacts) (s : Gathering) : Type 0 where
  pub base : g.places.base ≡ s.least % space
  pub raised : space ≤ s.least
  pub places : (i : ℕ) → piece_at (s.least + i) s.kept ≡ option_map (waiting (s.least + i)) (place g.places.pieces i)
  pub overs : g.overs ≡ overs_of s
  pub counts : g.counts ≡ counted s

-- the same facts but for the looks
abbrev pub with_looks_at : ℕ → GatherFacts → GatherFacts
with_looks_at looks g = record g { places = record g.places { looks = looks } }

-- for each link whether it is a member
abbrev pub members_in : GatherFacts → List Bool
members_in g = map is_some g.overs
