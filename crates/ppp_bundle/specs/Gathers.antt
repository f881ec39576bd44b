-- What the gatherer of a multilink bundle is asked at an event, and what it answers (RFC 1990, section 4.1).
use Rattle.std.specs.Prelude.{ℕ, ◌≡◌, ◌<◌, ◌≤◌, List, [], length}
use Rattle.ppp_mp.specs.Delivered.{Entry, Gathering, Joins, Leaves, nothing}
use Rattle.ppp_mp.specs.Header.{fragment_of, long_octets, long_space}
use Rattle.ppp_mp.specs.StandsFor.{Adds, AddsPiece, StandsFor, with_looks, GatherNow}
use Rattle.ppp_mp.specs.declared.counts.PieceNow.{PieceNow}

pub data GatherCall : Type 0 where
  nothing_asked : GatherCall
  begins : (mrru : ℕ) → GatherCall
  link_joins : (link : ℕ) → GatherCall
  link_leaves : (link : ℕ) → GatherCall
  piece_comes : (link : ℕ) → (information : List ℕ) → GatherCall

-- what it keeps then, and the packets that it gives, in order
pub record Gathered : Type 0 where
  pub gather : GatherNow
  pub packets : List (List ℕ)

-- our MRRU stays, and whatever it stood for, it stands for this entry more, and has given these packets by it
pub record AddsEntry (old : GatherNow) (entry : Entry) (g : Gathered) : Type 0 where
  pub ours : g.gather.mrru ≡ old.mrru
  pub stands : (past : List Entry) (s : Gathering) → StandsFor long_space old past s → Adds long_space g.gather past s entry g.packets

pub record Begins (mrru : ℕ) (g : Gathered) : Type 0 where
  pub stands : StandsFor long_space g.gather [] (nothing long_space)
  pub ours : g.gather.mrru ≡ mrru
  pub none : g.packets ≡ []

pub record TakesPiece (link : ℕ) (information : List ℕ) (old : GatherNow) (g : Gathered) : Type 0 where
  pub answer : PieceNow
  pub ours : g.gather.mrru ≡ old.mrru
  pub short : length information < long_octets → (g.gather ≡ with_looks 0 old) × (g.packets ≡ [])
  pub stands : (past : List Entry) (s : Gathering) → StandsFor long_space old past s → long_octets ≤ length information
      → AddsPiece long_space g.gather past s link (fragment_of long_space long_octets information) answer g.packets

pub record Same (old : GatherNow) (g : Gathered) : Type 0 where
  pub gather : g.gather ≡ old
  pub none : g.packets ≡ []

abbrev pub Gathers : GatherCall → GatherNow → Gathered → Type 0
Gathers nothing_asked old g = Same old g
Gathers (begins mrru) old g = Begins mrru g
Gathers (link_joins link) old g = AddsEntry old (Joins link) g × (g.packets ≡ [])
Gathers (link_leaves link) old g = AddsEntry old (Leaves link) g
Gathers (piece_comes link information) old g = TakesPiece link information old g
