-- What the code keeps of what we ask for, what it asks, and what it does at a Nak and at a Reject of our last request.
use Rattle.std.specs.Prelude.{ℕ, not, ◌||◌, if◌then◌else◌, List, [], ◌∷◌}
use Rattle.std.specs.Option.{unwrap_or}
use Rattle.ppp_packet.specs.OptionsOf.{Item}
use Rattle.ppp_control.specs.Changes.{Change, is_left_out, names_kind, asked_if}
use Rattle.ppp_ipcp.specs.declared.judge.TheConstants.{IP_ADDRESS}
use Rattle.ppp_ipcp.specs.declared.ours.IpOurs.{IpOurs}
use Rattle.ppp_ipcp.specs.declared.wish.IpWish.{IpWish}
use Rattle.ppp_ipcp.specs.Address.{address_of}
use Rattle.ppp_ipcp.specs.Ours.{takes_address, our_local}

abbrev pub ours_of : IpWish → List Change → IpOurs
ours_of wish changes = record { local = our_local wish changes; left_out = is_left_out IP_ADDRESS changes }

abbrev pub asks : IpOurs → List Item
asks o = asked_if (not o.left_out) IP_ADDRESS o.local

abbrev pub last_address : List ℕ → List Item → List ℕ
last_address found [] = found
last_address found (i ∷ items) = last_address (unwrap_or (address_of i) found) items

abbrev pub after_nak : IpWish → IpOurs → List Item → IpOurs
after_nak wish o items = record o { local = if takes_address wish then last_address o.local items else o.local }

abbrev pub after_reject : IpOurs → List Item → IpOurs
after_reject o items = record o { left_out = names_kind IP_ADDRESS items || o.left_out }
