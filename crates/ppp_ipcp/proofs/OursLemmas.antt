-- What the code keeps of what we ask for is what looking back over the changes gives.
use Rattle.std.proofs.Common.{◌≡◌, ℕ, Bool, true, false, cond, Option, Some, None, List, [], ◌∷◌, ◌++◌, refl, ap}
use Rattle.ppp_packet.specs.declared.packet.Packet.{Packet}
use Rattle.ppp_packet.specs.OptionsOf.{Item}
use Rattle.ppp_control.specs.Changes.{Change, by_nak, by_reject, named_in, items_onto}
use Rattle.ppp_control.specs.Rules.{our_nak}
use Rattle.ppp_ipcp.specs.declared.wish.IpWish.{IpWish}
use Rattle.ppp_ipcp.specs.Ours.{takes_address, first_address}
use Rattle.ppp_ipcp.specs.Taking.{ours_of, last_address, after_nak, after_reject}

-- the last of some addresses is the first of them, the newest first
last_first : (other : List ℕ) (items named : List Item) → last_address (first_address other named) items ≡ first_address other (items_onto items named)
last_first other [] named = refl
last_first other (i ∷ items) named = last_first other items (i ∷ named)

local_back : (takes : Bool) (own : List ℕ) (items named : List Item)
    → cond takes (last_address (cond takes (first_address own named) own) items) (cond takes (first_address own named) own) ≡ cond takes (first_address own (items_onto items named)) own
local_back true own items named = last_first own items named
local_back false own items named = refl

pub nak_back : (wish : IpWish) (changes : List Change) (items : List Item) → after_nak wish (ours_of wish changes) items ≡ ours_of wish (by_nak items ∷ changes)
nak_back wish changes items = ap (λ (local : List ℕ). record (ours_of wish changes) { local = local }) (local_back (takes_address wish) wish.local items (named_in changes))

pub reject_back : (wish : IpWish) (changes : List Change) (items : List Item) → after_reject (ours_of wish changes) items ≡ ours_of wish (by_reject items ∷ changes)
reject_back wish changes items = refl

-- a Nak of our own changes nothing
pub our_nak_back : (sent : Option Packet) (wish : IpWish) (changes : List Change) → ours_of wish changes ≡ ours_of wish (our_nak sent ++ changes)
our_nak_back None wish changes = refl
our_nak_back (Some p) wish changes = refl
