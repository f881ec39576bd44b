-- What we ask for, as a function of the wish and of what changed it in the session, the newest first
-- (RFC 1661, sections 5.3 and 5.4; RFC 1332, section 3.3; pppd(8): ipcp-accept-local).
use Rattle.std.specs.Prelude.{ℕ, not, ◌||◌, Bool, if◌then◌else◌, List, [], ◌∷◌}
use Rattle.std.specs.Option.{unwrap_or}
use Rattle.ppp_packet.specs.OptionsOf.{Item}
use Rattle.ppp_control.specs.Changes.{Change, is_left_out, named_in, asked_if}
use Rattle.ppp_ipcp.specs.declared.judge.TheConstants.{IP_ADDRESS}
use Rattle.ppp_ipcp.specs.declared.wish.IpWish.{IpWish}
use Rattle.ppp_ipcp.specs.Address.{no_address, same_address, address_of}

-- The peer may name our address where the wish has none, or says so. It is the wish's that counts, not what is asked for at present.
abbrev pub takes_address : IpWish → Bool
takes_address wish = same_address wish.local no_address || wish.accept_local

-- the first address among the items, or else another
abbrev pub first_address : List ℕ → List Item → List ℕ
first_address other [] = other
first_address other (i ∷ items) = unwrap_or (address_of i) (first_address other items)

-- Our address: the last that was named, where the peer may name it, or else the wish's. It is ours also where it was rejected.
abbrev pub our_local : IpWish → List Change → List ℕ
our_local wish changes = if takes_address wish then first_address wish.local (named_in changes) else wish.local

-- The options of our next request: our address, unless that was rejected.
abbrev pub Asked : IpWish → List Change → List Item
Asked wish changes = asked_if (not (is_left_out IP_ADDRESS changes)) IP_ADDRESS (our_local wish changes)
