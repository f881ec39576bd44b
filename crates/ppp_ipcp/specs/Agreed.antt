-- What the options of two acknowledged requests mean (RFC 1332, section 3.3). Of two options of one type the later holds.
use Rattle.std.specs.Prelude.{ℕ, Option, Some, None, List}
use Rattle.std.specs.Option.{unwrap_or}
use Rattle.ppp_packet.specs.OptionsOf.{Item}
use Rattle.ppp_control.specs.Changes.{last_body}
use Rattle.ppp_ipcp.specs.declared.addresses.Addresses.{Addresses}
use Rattle.ppp_ipcp.specs.declared.judge.TheConstants.{IP_ADDRESS}
use Rattle.ppp_ipcp.specs.declared.wish.IpWish.{IpWish}
use Rattle.ppp_ipcp.specs.Address.{no_address, address_in}

-- the address that an option's data are, or else another
abbrev pub address_or : Option (List ℕ) → List ℕ → List ℕ
address_or None other = other
address_or (Some body) other = unwrap_or (address_in body) other

-- the peer's address where its request names none
abbrev pub wished_remote : IpWish → List ℕ
wished_remote wish = unwrap_or wish.remote no_address

-- `local` is our address where our request names none
abbrev pub agreed_by : IpWish → List ℕ → List Item → List Item → Addresses
agreed_by wish local ours theirs = record {
  local = address_or (last_body IP_ADDRESS ours) local;
  remote = address_or (last_body IP_ADDRESS theirs) (wished_remote wish);
}
