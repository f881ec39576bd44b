-- What the single steps of a gatherer do to what it keeps.
use Rattle.std.specs.Prelude.{◌≡◌, ℕ, ◌+◌, ◌-◌, ◌%◌, ◌≤◌, ◌<◌, List, [], ◌∷◌, ◌++◌, map, min, max, length, option_map, ◌≢◌, ◌==◌, Some, None, Option, if◌then◌else◌}
use Rattle.ppp_mp.specs.Pieces.{piece_at}
use Rattle.ppp_mp.specs.Delivered.{Gathering, Fragment, Settles, AtRest, TakesOf, mark, thrown_to}
use Rattle.ppp_mp.specs.Places.{place, joined_there}
use Rattle.ppp_mp.specs.StandsFor.{stopped}
use Rattle.ppp_mp.specs.Facts.{KeepsFacts}
use Rattle.ppp_mp.specs.declared.slot_piece.SlotPiece.{SlotPiece}
use Rattle.ppp_mp.specs.declared.counts.PieceNow.{PieceNow}
use Rattle.ppp_mp.specs.declared.facts.GatherFacts.{GatherFacts}

-- So many numbers are settled.
pub record IsMoved (space : ℕ) (old new : GatherFacts) (count : ℕ) : Type 0 where
  pub mrru : new.mrru ≡ old.mrru
  pub base : new.places.base ≡ (old.places.base + count) % space
  pub places : (i : ℕ) → place new.places.pieces i ≡ place old.places.pieces (i + count)
  pub end : new.places.end ≡ old.places.end - count
  pub looks : new.places.looks ≤ old.places.looks + min count old.places.end
  pub rose : old.places.looks ≤ new.places.looks
  pub overs : new.overs ≡ map (option_map (λ n. n - count)) old.overs

-- A piece begins to wait at a place, where none does.
pub record IsKept (old new : List (Option SlotPiece)) (i : ℕ) (piece : SlotPiece) : Type 0 where
  pub empty : place old i ≡ None → (j : ℕ) → place new j ≡ (if j == i then Some piece else place old j)
  pub taken : place old i ≢ None → (j : ℕ) → place new j ≡ place old j

-- A gatherer keeps a gathering, and these packets are the last that it has given.
pub record Holds (space : ℕ) (before : List (List ℕ)) (g : GatherFacts) (packets : List (List ℕ)) (s : Gathering) : Type 0 where
  pub keeps : KeepsFacts space g s
  pub given : s.given ≡ before ++ packets

-- A waiting piece as it arrived.
abbrev pub arrived : (field : ℕ) → SlotPiece → Fragment
arrived field p = record { field = field; first = p.first; last = p.last; octets = p.octets }

-- A member's piece has been taken, and these packets were given.
abbrev pub HasTaken : (space mrru : ℕ) (s : Gathering) (link : ℕ) → Fragment → PieceNow → GatherFacts → List (List ℕ) → Type 0
HasTaken space mrru s link fragment answer g packets =
    (new : Gathering) × TakesOf space mrru s link fragment answer new × KeepsFacts space g new × (new.given ≡ s.given ++ packets)

-- The rules are applied with M as it is.
abbrev pub HasSettledNow : (space : ℕ) (old new : GatherFacts) (packets packets' : List (List ℕ)) → Type 0
HasSettledNow space old new packets packets' =
    (before : List (List ℕ)) (s : Gathering) → Holds space before old packets s
    → (s' : Gathering) × Settles old.mrru (mark s) s s' × Holds space before new packets' s'

-- The rules are applied until none does.
abbrev pub HasSettled : (space bound : ℕ) (old new : GatherFacts) (packets packets' : List (List ℕ)) → Type 0
HasSettled space bound old new packets packets' =
    (before : List (List ℕ)) (s : Gathering) (below : ℕ) → Holds space before old packets s → bound ≡ below - s.least
    → (s' : Gathering) × Settles old.mrru below s s' × Holds space before new packets' s'

-- So many pieces from the first place on are given as a packet, or counted as too long.
pub record HasCompleted (old new : GatherFacts) (count : ℕ) (packets packets' : List (List ℕ)) : Type 0 where
  pub long : old.mrru + 2 < length (joined_there old.places.pieces count) → (packets' ≡ packets) × (new.counts ≡ record old.counts { too_long = stopped (old.counts.too_long + 1) })
  pub fits : length (joined_there old.places.pieces count) ≤ old.mrru + 2 → (packets' ≡ packets ++ joined_there old.places.pieces count ∷ []) × (new.counts ≡ old.counts)

-- Where a piece that is so far ahead is new, what lies more than 127 below it has been settled: its place then is this.
pub record Room (space : ℕ) (old : GatherFacts) (s : Gathering) (new : GatherFacts) (packets : List (List ℕ)) (number place : ℕ) : Type 0 where
  pub mid : Gathering
  pub settles : Settles old.mrru (max (mark s) (number - 127)) s mid
  pub keeps : KeepsFacts space new (thrown_to (number - 127) mid)
  pub given : mid.given ≡ s.given ++ packets
  pub kept : mid.kept ≡ s.kept
  pub at : number ≡ (thrown_to (number - 127) mid).least + place

abbrev pub MadeRoom : (space : ℕ) (old new : GatherFacts) (packets : List (List ℕ)) (ahead place : ℕ) → Type 0
MadeRoom space old new packets ahead place =
    (s : Gathering) → KeepsFacts space old s → AtRest old.mrru (mark s) s → piece_at (s.least + ahead) s.kept ≡ None → Room space old s new packets (s.least + ahead) place
