-- A bundle that lives: as it is made, what its peer takes, and how long it may go on.
use Rattle.std.specs.Prelude.{ℕ, ◌*◌, ◌-◌, ◌==◌, ◌&&◌, Bool, false, not, nat_le, min, Option, None, Some, List, [], ◌∷◌, if◌then◌else◌}
use Rattle.ppp_base.specs.declared.allow.Allow.{Allow}
use Rattle.ppp_base.specs.declared.posts.CloseCause.{CloseCause}
use Rattle.ppp_base.specs.Mrru.{MrruPair}
use Rattle.ppp_ipcp.specs.Session.{IpcpCall, StandsFor, session_after}
use Rattle.ppp_unit_parts.specs.declared.live.Live.{Live}
use Rattle.ppp_unit_parts.specs.declared.member.Member.{Member}
use Rattle.ppp_unit_parts.specs.declared.outbox.Ending.{Ending}
use Rattle.ppp_unit_parts.specs.declared.wish.UnitWish.{UnitWish}

-- A bundle is made. Its IPCP is in Initial, and no piece was sent.
abbrev pub new_live : ℕ → ℕ → UnitWish → Option MrruPair → Allow → Live
new_live number made_at wish mrru allow = record {
  number = number;
  made_at = made_at;
  wish = wish;
  allow = allow;
  mrru = mrru;
  members = [];
  ipcp = session_after wish.ip [];
  pieces = record { number = 0; turn = 0 };
  was_open = false;
  by_peer = false;
  opened_at = 0;
  passed_at = 0;
}

-- IPCP stands for the calls of some session, each of which is lawful.
pub record SomeSession (l : Live) : Type 0 where
  pub past : List IpcpCall
  pub stands : StandsFor l.wish.ip l.ipcp past

-- the state Opened
abbrev pub is_up : Live → Bool
is_up l = l.ipcp.core.fsm.state == 9

-- the most octets of a datagram to the peer: its MRRU in a multilink bundle, else the MRU of the one member
abbrev pub mru_of_first : List Member → ℕ
mru_of_first [] = 1500
mru_of_first (m ∷ members) = m.mru

abbrev pub most_of : Option MrruPair → List Member → ℕ
most_of None members = mru_of_first members
most_of (Some mrru) members = mrru.theirs

abbrev pub most_to_peer : Live → ℕ
most_to_peer l = most_of l.mrru l.members

-- the most octets of a packet that is gathered of pieces
abbrev pub most_of_ours : Option MrruPair → ℕ
most_of_ours None = 0
most_of_ours (Some mrru) = mrru.ours

-- HOW IT ENDS

abbrev pub ending : CloseCause → ℕ → Ending
ending cause elapsed = record { cause = cause; elapsed_ms = elapsed }

-- the greatest u32
abbrev pub most_elapsed : ℕ
most_elapsed = 4294967295

-- In Opened so many seconds have passed since that moment; with 0 seconds there is no limit.
abbrev pub is_over : ℕ → ℕ → ℕ → Live → Bool
is_over seconds now since l = is_up l && not (seconds == 0) && nat_le (seconds * 1000) (now - since)

abbrev pub over_limit : CloseCause → ℕ → ℕ → ℕ → Live → Option Ending
over_limit cause seconds now since l = if is_over seconds now since l then Some (ending cause (min (now - since) most_elapsed)) else None
