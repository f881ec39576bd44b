-- What one event makes of a unit.
use Rattle.std.specs.Prelude.{ℕ, ◌+◌, ◌≡◌, ◌≤◌, ◌^◌, ◌==◌, max, min, Bool, true, false, ⊤, Option, Some, None, List, [], ◌∷◌, length, if◌then◌else◌}
use Rattle.ppp_base.specs.declared.allow.Allow.{Allow}
use Rattle.ppp_base.specs.declared.protocol.TheConstants.{MULTILINK}
use Rattle.ppp_base.specs.Mrru.{MrruPair}
use Rattle.ppp_hooks.specs.HookCounts.{DoneCounts, MachineCounts}
use Rattle.ppp_hooks.specs.HookState.{DoneState}
use Rattle.ppp_mark.specs.Log.{room_of}
use Rattle.ppp_mark.specs.Marks.{in_mark, made_mark, out_mark}
use Rattle.ppp_mark.specs.ScriptLog.{IsRunningJob}
use Rattle.ppp_secrets.specs.declared.secrets.SecretsPair.{SecretsPair}
use Rattle.ppp_bundle.specs.declared.event.BundleEvent.{BundleEvent}
use Rattle.ppp_bundle.specs.declared.event.BundleEvent.TheVariants.{Make, In, Out, Frame, Datagram, Tick, HookOver}
use Rattle.ppp_unit_parts.specs.declared.live.Live.{Live}
use Rattle.ppp_unit_parts.specs.declared.live.IpCall.TheVariants.{Opens, ComesUp, Ticks}
use Rattle.ppp_unit_parts.specs.declared.member.Member.{Member}
use Rattle.ppp_unit_parts.specs.declared.wish.UnitWish.{UnitWish}
use Rattle.ppp_bundle.specs.Closing.{connected_long, idled, looked, unmade}
use Rattle.ppp_bundle.specs.Frames.{brought, carried, stranger, used_all}
use Rattle.ppp_bundle.specs.Gathers.{GatherCall, Gathered, Gathers, begins, link_joins, link_leaves, nothing_asked, piece_comes}
use Rattle.ppp_bundle.specs.IpCalls.{called}
use Rattle.ppp_unit_parts.specs.Member.{has_link, member, stay_of, with_member, without}
use Rattle.ppp_bundle.specs.Replay.{bundles_in}
use Rattle.ppp_bundle.specs.ScriptParts.{marked, over}
use Rattle.ppp_bundle.specs.State.{UnitState, members_of}
use Rattle.ppp_unit_parts.specs.Live.{new_live}

abbrev pub made : {S : Type 0} → ℕ → ℕ → UnitWish → Option MrruPair → Allow → UnitState S → UnitState S
made number maker wish mrru allow u = record u {
  scripts = marked (made_mark u.time maker number) u.scripts;
  bundles = number;
  live = Some (new_live number (length u.scripts.log.past) wish mrru allow);
}

-- A link comes in. As the first does, IPCP gets Open and Up.
abbrev pub begun : {S : Type 0} → List Member → SecretsPair → UnitState S → UnitState S
begun [] secrets u = called secrets ComesUp (called secrets Opens u)
begun (m ∷ members) secrets u = u

abbrev pub entered_of : {S : Type 0} → Option Live → SecretsPair → ℕ → ℕ → ℕ → UnitState S → UnitState S
entered_of None secrets link stay mru u = u
entered_of (Some l) secrets link stay mru u =
    begun l.members secrets (record u {
      scripts = marked (in_mark u.time link stay) u.scripts;
      live = Some (record l { members = with_member (member link stay mru) l.members });
    })

abbrev pub entered : {S : Type 0} → SecretsPair → ℕ → ℕ → ℕ → UnitState S → UnitState S
entered secrets link stay mru u = entered_of u.live secrets link stay mru u

-- A member goes out. With the last one IPCP goes down and the bundle is unmade, and nothing tells a cause. Where others stay, what gathering gives then is used.
abbrev pub left_by : {S : Type 0} → List Member → SecretsPair → Live → ℕ → ℕ → List (List ℕ) → UnitState S → UnitState S
left_by [] secrets l link stay packets u = record u { scripts = unmade l u.time u.scripts; live = None }
left_by (m ∷ members) secrets l link stay packets u =
    used_all secrets packets (record u { scripts = marked (out_mark u.time link stay) u.scripts; live = Some (record l { members = m ∷ members }) })

abbrev pub left_of : {S : Type 0} → Option Live → SecretsPair → ℕ → ℕ → List (List ℕ) → UnitState S → UnitState S
left_of None secrets link stay packets u = u
left_of (Some l) secrets link stay packets u = left_by (without link l.members) secrets l link stay packets u

-- A frame of a member is used as it came, or is a piece; one of another link is dropped.
abbrev pub framed : {S : Type 0} → SecretsPair → ℕ → ℕ → List ℕ → List (List ℕ) → UnitState S → UnitState S
framed secrets link protocol information packets u =
    if has_link link (members_of u.live)
    then (if protocol == MULTILINK then used_all secrets packets u else brought secrets protocol information u)
    else stranger u

-- The unit's time is the greatest that it was told, of at most 2^56 milliseconds. The restart timer is looked at, then the two limits of the options.
abbrev pub timed : {S : Type 0} → ℕ → UnitState S → UnitState S
timed now u = record u { time = max u.time (min now (2 ^ 56)) }

abbrev pub ticked_unit : {S : Type 0} → SecretsPair → ℕ → UnitState S → UnitState S
ticked_unit secrets now u = connected_long (idled (called secrets Ticks (timed now u)))

-- A script has ended.
abbrev pub script_over : {S : Type 0} → DoneState S → UnitState S → UnitState S
script_over done u = record u { scripts = over done u.time u.scripts }

-- What the gatherer is asked: in a multilink bundle to begin with it, and then of the links that come in and go out, where others stay, and of members' pieces.
abbrev pub if_multilink : Option MrruPair → GatherCall → GatherCall
if_multilink None call = nothing_asked
if_multilink (Some mrru) call = call

abbrev pub begins_with : Option MrruPair → GatherCall
begins_with None = nothing_asked
begins_with (Some mrru) = begins mrru.ours

abbrev pub unless_last : List Member → GatherCall → GatherCall
unless_last [] call = nothing_asked
unless_last (m ∷ members) call = call

abbrev pub piece_of : Bool → Bool → ℕ → List ℕ → GatherCall
piece_of true true link information = piece_comes link information
piece_of true false link information = nothing_asked
piece_of false true link information = nothing_asked
piece_of false false link information = nothing_asked

abbrev pub asked_to_begin : Option Live → Option MrruPair → GatherCall
asked_to_begin None mrru = begins_with mrru
asked_to_begin (Some l) mrru = nothing_asked

abbrev pub asked_to_join : Option Live → ℕ → GatherCall
asked_to_join None link = nothing_asked
asked_to_join (Some l) link = if_multilink l.mrru (link_joins link)

abbrev pub asked_to_leave : Option Live → ℕ → GatherCall
asked_to_leave None link = nothing_asked
asked_to_leave (Some l) link = if_multilink l.mrru (unless_last (without link l.members) (link_leaves link))

abbrev pub asked_to_take : Option Live → (link protocol : ℕ) → List ℕ → GatherCall
asked_to_take None link protocol information = nothing_asked
asked_to_take (Some l) link protocol information = if_multilink l.mrru (piece_of (has_link link l.members) (protocol == MULTILINK) link information)

abbrev pub asked_of : {S : Type 0} → Option Live → BundleEvent S → GatherCall
asked_of live (Make number maker wish mrru allow) = asked_to_begin live mrru
asked_of live (In link stay mru) = asked_to_join live link
asked_of live (Out link stay) = asked_to_leave live link
asked_of live (Frame link protocol information) = asked_to_take live link protocol information
asked_of live (Datagram datagram) = nothing_asked
asked_of live (Tick now) = nothing_asked
asked_of live (HookOver done) = nothing_asked

-- what an event does, where the gatherer gives these packets
abbrev pub after_event : {S : Type 0} → SecretsPair → BundleEvent S → List (List ℕ) → UnitState S → UnitState S
after_event secrets (Make number maker wish mrru allow) packets u = made number maker wish mrru allow u
after_event secrets (In link stay mru) packets u = entered secrets link stay mru u
after_event secrets (Out link stay) packets u = left_of u.live secrets link stay packets u
after_event secrets (Frame link protocol information) packets u = framed secrets link protocol information packets u
after_event secrets (Datagram datagram) packets u = carried datagram u
after_event secrets (Tick now) packets u = ticked_unit secrets now u
after_event secrets (HookOver done) packets u = script_over done u

-- No end is told from before; then the event; then the marks are counted.
abbrev pub after_step : {S : Type 0} → SecretsPair → BundleEvent S → Gathered → UnitState S → UnitState S
after_step secrets event g u = looked (after_event secrets event g.packets (record u { gather = g.gather; ended = None }))

-- A step that is taken.
pub record UnitPart {S : Type 0} (secrets : SecretsPair) (event : BundleEvent S) (old new : UnitState S) : Type 0 where
  pub gathered : Gathered
  pub gathers : Gathers (asked_of old.live event) old.gather gathered
  pub after : new ≡ after_step secrets event gathered old

-- An event is stale where it is the end of a script that doesn't run.
abbrev pub IsFresh : {S : Type 0} → BundleEvent S → UnitState S → Type 0
IsFresh (HookOver done) u = IsRunningJob done u.scripts
IsFresh (Make number maker wish mrru allow) u = ⊤
IsFresh (In link stay mru) u = ⊤
IsFresh (Out link stay) u = ⊤
IsFresh (Frame link protocol information) u = ⊤
IsFresh (Datagram datagram) u = ⊤
IsFresh (Tick now) u = ⊤

-- A plain bundle takes no second member.
abbrev pub TakesOneMore : Live → Type 0
TakesOneMore l = l.mrru ≡ None → l.members ≡ []

abbrev pub MayEnter : Option Live → ℕ → ℕ → Type 0
MayEnter None link mru = ⊥
MayEnter (Some l) link mru = TakesOneMore l × (has_link link l.members ≡ false) × (128 ≤ mru) × (mru ≤ 1500)

-- When an event may come.
abbrev pub MayCome : {S : Type 0} → BundleEvent S → UnitState S → Type 0
MayCome (Make number maker wish mrru allow) u = (u.live ≡ None) × (1024 ≤ room_of u.scripts.log) × (number ≡ bundles_in 0 u.scripts.log.past + 1)
MayCome (In link stay mru) u = MayEnter u.live link mru
MayCome (Out link stay) u = stay_of link (members_of u.live) ≡ Some stay
MayCome (Frame link protocol information) u = ⊤
MayCome (Datagram datagram) u = ⊤
MayCome (Tick now) u = ⊤
MayCome (HookOver done) u = ⊤

-- A link that comes in has a number from 1 to 16.
abbrev pub IsLinkNumber : {S : Type 0} → BundleEvent S → Type 0
IsLinkNumber (Make number maker wish mrru allow) = ⊤
IsLinkNumber (In link stay mru) = (1 ≤ link) × (link ≤ 16)
IsLinkNumber (Out link stay) = ⊤
IsLinkNumber (Frame link protocol information) = ⊤
IsLinkNumber (Datagram datagram) = ⊤
IsLinkNumber (Tick now) = ⊤
IsLinkNumber (HookOver done) = ⊤

-- The counts with which a spawner was handed in travel with it: while it isn't in the machine they come back with the script's end.
abbrev pub EventCounts : {S : Type 0} → (tries faults : S → ℕ) → ℕ → ℕ → BundleEvent S → UnitState S → Type 0
EventCounts tries faults t f (HookOver done) u = DoneCounts tries faults t f done
EventCounts tries faults t f (Make number maker wish mrru allow) u = MachineCounts tries faults t f u.scripts.machine
EventCounts tries faults t f (In link stay mru) u = MachineCounts tries faults t f u.scripts.machine
EventCounts tries faults t f (Out link stay) u = MachineCounts tries faults t f u.scripts.machine
EventCounts tries faults t f (Frame link protocol information) u = MachineCounts tries faults t f u.scripts.machine
EventCounts tries faults t f (Datagram datagram) u = MachineCounts tries faults t f u.scripts.machine
EventCounts tries faults t f (Tick now) u = MachineCounts tries faults t f u.scripts.machine
