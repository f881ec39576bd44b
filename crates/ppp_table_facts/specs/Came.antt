-- Where a datagram that a unit gives has come from: each delivered datagram's pieces came from members.
use Rattle.std.specs.List.{AllByRecursion}
use Rattle.std.specs.Prelude.{ℕ, ◌≡◌, ◌⊎◌, ◌++◌, true, Some, List, [], ◌∷◌}
use Rattle.ppp_base.specs.declared.protocol.TheConstants.{IP}
use Rattle.ppp_mp.specs.Header.{long_space}
use Rattle.ppp_mp.specs.Membership.{IsLink}
use Rattle.ppp_mp.specs.Reached.{HasReached, Reached, Whole}
use Rattle.ppp_secrets.specs.declared.secrets.SecretsPair.{SecretsPair}
use Rattle.ppp_unit_parts.specs.Live.{most_of_ours}
use Rattle.ppp_bundle.specs.declared.event.BundleEvent.{BundleEvent}
use Rattle.ppp_bundle.specs.Frames.{inner, inner_of}
use Rattle.ppp_bundle.specs.History.{Moment, Brings, Gathered, Terms, entries_in, is_member_in}
use Rattle.ppp_bundle.specs.Lives.{own_in, own_of}
use Rattle.ppp_bundle.specs.State.{UnitState}

-- A packet is whole: it was made of pieces with consecutive numbers, each of which came over a link that was a member then.
pub record IsGathered (mrru : ℕ) (moments : List Moment) (packet : List ℕ) : Type 0 where
  pub reached : List Reached
  pub has : HasReached long_space mrru (entries_in moments) reached
  pub whole : Whole reached packet

-- A datagram came at a moment: in a frame of a link that was a member then, or in a packet that was gathered, whole.
abbrev pub CameAt : (mrru : ℕ) → (moments : List Moment) → Moment → (before : List Moment) → (datagram : List ℕ) → Type 0
CameAt mrru moments (Brings secrets link protocol information) before datagram = (is_member_in link before ≡ true) × (protocol ≡ IP) × (information ≡ datagram)
CameAt mrru moments (Gathered secrets packet) before datagram = (inner_of packet ≡ Some (inner IP datagram)) × IsGathered mrru moments packet
CameAt mrru moments _ before datagram = ⊥

-- at one of these, the newest first
abbrev pub CameAmong : (mrru : ℕ) → (moments : List Moment) → (until : List Moment) → (datagram : List ℕ) → Type 0
CameAmong mrru moments [] datagram = ⊥
CameAmong mrru moments (m ∷ before) datagram = CameAt mrru moments m before datagram ⊎ CameAmong mrru moments before datagram

abbrev pub Came : (mrru : ℕ) → List Moment → (datagram : List ℕ) → Type 0
Came mrru moments datagram = CameAmong mrru moments moments datagram

-- A unit whose bundle has this past takes an event: behind that past are the event's own moment and what it leads to, and each datagram that is given then came
-- among them, where each link that came or went had a number from 1 to 16.
pub record GivesWhatCame {S : Type 0} (secrets : SecretsPair) (terms : Terms) (past : List Moment) (event : BundleEvent S) (was is : UnitState S) : Type 0 where
  pub since : List Moment
  pub own : own_in since ≡ own_of secrets event was
  pub came : AllByRecursion IsLink (entries_in (since ++ past)) → AllByRecursion (Came (most_of_ours terms.mrru) (since ++ past)) is.given
