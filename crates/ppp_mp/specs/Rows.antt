-- Histories of which is worked out by hand what they deliver.
use Rattle.std.specs.Prelude.{◌≡◌, ℕ, zero, suc, ◌+◌, true, false, List, [], ◌∷◌}
use Rattle.ppp_mp.specs.Delivered.{Fragment, Entry, Joins, Comes, Gathering, Delivered}
use Rattle.ppp_mp.specs.Schedule.{CutPacket, SentPiece}
use Rattle.ppp_mp.specs.declared.members.MemberView.{MemberView}

-- a piece that is a packet
abbrev pub whole : (field octet : ℕ) → Fragment
whole field octet = record { field = field; first = true; last = true; octets = octet ∷ [] }

-- a piece that begins a packet, or ends one
abbrev pub begins : (field octet : ℕ) → Fragment
begins field octet = record { field = field; first = true; last = false; octets = octet ∷ [] }

abbrev pub ends_it : (field octet : ℕ) → Fragment
ends_it field octet = record { field = field; first = false; last = true; octets = octet ∷ [] }

-- what was delivered, and what was thrown away
pub record Came (s : Gathering) (given : List (List ℕ)) (old doubled lost too_long : ℕ) : Type 0 where
  pub packets : s.given ≡ given
  pub old_ones : s.old ≡ old
  pub doubled_ones : s.doubled ≡ doubled
  pub lost_ones : s.lost ≡ lost
  pub too_long_ones : s.too_long ≡ too_long

-- Whatever has reached a bundle so, newest first, delivers that.
abbrev pub Gives : (space mrru : ℕ) → List Entry → (given : List (List ℕ)) (old doubled lost too_long : ℕ) → Type 0
Gives space mrru past given old doubled lost too_long = (s : Gathering) → Delivered space mrru past s → Came s given old doubled lost too_long

-- packets of one piece with the numbers 1 to count, by link 1, behind these entries
abbrev pub wholes : (count : ℕ) → List Entry → List Entry
wholes zero past = past
wholes (suc n) past = Comes 1 (whole (suc n) (suc n)) ∷ wholes n past

-- the packets of so many such pieces, from this number on
abbrev pub packets_from : (first count : ℕ) → List (List ℕ)
packets_from first zero = []
packets_from first (suc n) = (first ∷ []) ∷ packets_from (first + 1) n

-- three packets of one octet, cut over one member
abbrev pub three_cuts : List CutPacket
three_cuts =
    let over : List MemberView = record { link = 1; mru = 1500 } ∷ [] in
    record { packet = 1 ∷ []; members = over } ∷ record { packet = 2 ∷ []; members = over } ∷ record { packet = 3 ∷ []; members = over } ∷ []

-- the piece that is a packet of one octet
abbrev pub sent_whole : ℕ → SentPiece
sent_whole octet = record { link = 1; first = true; last = true; octets = octet ∷ [] }

-- their pieces
abbrev pub three_sent : List SentPiece
three_sent = sent_whole 1 ∷ sent_whole 2 ∷ sent_whole 3 ∷ []

-- the first comes twice, the second is lost
abbrev pub one_lost : List Entry
one_lost = Comes 1 (whole 2 3) ∷ Comes 1 (whole 0 1) ∷ Comes 1 (whole 0 1) ∷ Joins 1 ∷ []
