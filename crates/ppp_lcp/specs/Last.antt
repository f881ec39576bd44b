-- What the options of two acknowledged requests mean. Of two options of one type the later holds.
use Rattle.std.specs.Prelude.{ℕ, ◌≤◌, ◌==◌, nat_le, ◌&&◌, min, if◌then◌else◌, Option, Some, None, is_some, List, [], ◌∷◌, length}
use Rattle.ppp_base.specs.declared.send_settings.TheConstants.{DEFAULT_MAP}
use Rattle.ppp_base.specs.declared.mrru.TheConstants.{DEFAULT_MRU, LEAST_MRU, LEAST_MRRU, MOST_MRRU}
use Rattle.ppp_base.specs.Disc.{Discriminator}
use Rattle.ppp_base.specs.Mrru.{MrruPair}
use Rattle.ppp_packet.specs.OptionsOf.{Item}
use Rattle.ppp_control.specs.Changes.{last_body}
use Rattle.ppp_packet.specs.declared.agreed.Agreed.{Agreed}
use Rattle.ppp_packet.specs.declared.agreed.Method.{Method}
use Rattle.ppp_packet.specs.declared.agreed.Method.TheVariants.{Pap, Chap}
use Rattle.ppp_lcp.specs.Table.{number2, number4, is_chap, is_pap}

-- an option's number, or a default where there is none
abbrev pub number2_or : Option (List ℕ) → ℕ → ℕ
number2_or None default = default
number2_or (Some body) default = if length body == 2 then number2 body else default

abbrev pub number4_or : Option (List ℕ) → ℕ → ℕ
number4_or None default = default
number4_or (Some body) default = if length body == 4 then number4 body else default

-- by what the other end is asked to prove who it is
abbrev pub method_named : Option (List ℕ) → Option Method
method_named None = None
method_named (Some body) = if is_chap body then Some Chap else if is_pap body then Some Pap else None

abbrev pub method_in : List Item → Option Method
method_in items = method_named (last_body 3 items)

-- a class that isn't 0, and an address of at most 20 octets
abbrev pub discriminator_in : List ℕ → Option Discriminator
discriminator_in [] = None
discriminator_in (class ∷ address) = if nat_le 1 class && nat_le (length address) 20 then Some (record { class = class; address = address }) else None

abbrev pub discriminator_of : Option (List ℕ) → Option Discriminator
discriminator_of None = None
discriminator_of (Some body) = discriminator_in body

abbrev pub number2_of : Option (List ℕ) → Option ℕ
number2_of None = None
number2_of (Some body) = if length body == 2 then Some (number2 body) else None

-- both ends asked for multilink, ours with 1500 to 2048 octets and the peer with at least 1500
abbrev pub mrru_pair : Option ℕ → Option ℕ → Option MrruPair
mrru_pair None theirs = None
mrru_pair (Some ours) None = None
mrru_pair (Some ours) (Some theirs) = if nat_le LEAST_MRRU ours && nat_le ours MOST_MRRU && nat_le LEAST_MRRU theirs then Some (record { ours = ours; theirs = theirs }) else None

-- A peer's MRU above 1500 counts as 1500. What a request leaves out has its default.
abbrev pub agreed_by : List Item → List Item → Agreed
agreed_by ours theirs = record {
  we_prove = method_in theirs;
  peer_proves = method_in ours;
  peer_mru = min (number2_or (last_body 1 theirs) DEFAULT_MRU) DEFAULT_MRU;
  mrru = mrru_pair (number2_of (last_body 17 ours)) (number2_of (last_body 17 theirs));
  disc = discriminator_of (last_body 19 theirs);
  send = record { map = number4_or (last_body 2 theirs) DEFAULT_MAP; pfc = is_some (last_body 7 theirs); acfc = is_some (last_body 8 theirs) };
  receive_map = number4_or (last_body 2 ours) DEFAULT_MAP;
}

-- the MRU that is told is 128 to 1500
abbrev pub IsInRange : Option Agreed → Type 0
IsInRange None = Unit {0}
IsInRange (Some agreed) = (LEAST_MRU ≤ agreed.peer_mru) × (agreed.peer_mru ≤ DEFAULT_MRU)
