-- By what links belong in one bundle (RFC 1990, section 5.1.3).
use Rattle.std.specs.Prelude.{ℕ, ◌==◌, ◌&&◌, Bool, true, false, nat_eq, Option, None, Some, List}
use Rattle.std.specs.Cmp.Lexicographic.{pointwise}
use Rattle.ppp_base.specs.Disc.{Discriminator}
use Rattle.ppp_base.specs.Mrru.{MrruPair}

-- the peer's name or none, and its discriminator or none
pub record Key : Type 0 where
  pub peer : Option (List ℕ)
  pub disc : Option Discriminator

-- with which a link asked for a bundle: its key, and the MRRU pair where it asked for multilink
pub record Terms : Type 0 where
  pub key : Key
  pub mrru : Option MrruPair

abbrev pub same_peer : Option (List ℕ) → Option (List ℕ) → Bool
same_peer None None = true
same_peer None (Some b) = false
same_peer (Some a) None = false
same_peer (Some a) (Some b) = pointwise nat_eq a b

abbrev pub same_disc : Option Discriminator → Option Discriminator → Bool
same_disc None None = true
same_disc None (Some b) = false
same_disc (Some a) None = false
same_disc (Some a) (Some b) = a.class == b.class && pointwise nat_eq a.address b.address

-- whether two keys are equal
abbrev pub same_key : Key → Key → Bool
same_key a b = same_peer a.peer b.peer && same_disc a.disc b.disc

-- whether two MRRU pairs are equal
abbrev pub same_mrru : MrruPair → MrruPair → Bool
same_mrru a b = a.ours == b.ours && a.theirs == b.theirs
