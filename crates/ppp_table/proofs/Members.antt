-- What an event makes of a unit's members: where its bundle lives on, they are those from before, but for the link that comes in or goes out.
use Rattle.std.proofs.Common.{◌≡◌, ℕ, Bool, true, false, Option, None, Some, List, [], ◌∷◌, ◌++◌, ◌==◌, ◌||◌, refl, ap, sym, subst, ◌∙◌}
use Rattle.std.specs.Prelude.{⊤, if◌then◌else◌, nat_lt, nat_le, length}
use Rattle.ppp_base.specs.Mrru.{MrruPair}
use Rattle.ppp_base.specs.declared.protocol.TheConstants.{IP, IPCP, LCP, MULTILINK}
use Rattle.ppp_packet.specs.declared.packet.Packet.{Packet}
use Rattle.ppp_packet.specs.PacketOf.{laid_packet, packet_in}
use Rattle.ppp_control.specs.declared.negotiation.StepOut.{StepOut}
use Rattle.ppp_base.specs.declared.allow.Allow.{Allow}
use Rattle.ppp_mark.specs.Marks.{in_mark, out_mark}
use Rattle.ppp_unit_parts.specs.declared.wish.UnitWish.{UnitWish}
use Rattle.ppp_bundle.specs.declared.event.BundleEvent.{BundleEvent}
use Rattle.ppp_bundle.specs.declared.event.BundleEvent.TheVariants.{Make, In, Out, Frame, Datagram, Tick, HookOver}
use Rattle.ppp_bundle.specs.ScriptParts.{marked}
use Rattle.ppp_secrets.specs.declared.secrets.SecretsPair.{SecretsPair}
use Rattle.ppp_unit_parts.specs.declared.live.IpCall.{IpCall}
use Rattle.ppp_unit_parts.specs.declared.live.IpCall.TheVariants.{Opens, ComesUp, Hears, Ticks}
use Rattle.ppp_unit_parts.specs.declared.live.Live.{Live}
use Rattle.ppp_unit_parts.specs.declared.member.Member.{Member}
use Rattle.ppp_unit_parts.specs.declared.outbox.Ending.{Ending}
use Rattle.ppp_unit_parts.specs.Calls.{has_finished, live_left, live_tells}
use Rattle.ppp_unit_parts.specs.Live.{is_up, most_of_ours, most_to_peer, new_live}
use Rattle.ppp_unit_parts.specs.Member.{has_link, member, with_member, without}
use Rattle.ppp_unit_parts.specs.Pieces.{left_by_sending}
use Rattle.ppp_bundle.specs.Closing.{closed, closed_if, closed_of, connect_end, connected_long, crowded_end, idle_end, idled, looked}
use Rattle.ppp_bundle.specs.Frames.{Inner, not_open, rejected, stranger, too_big, brought, carried, carried_by, gave, heard, inner_of, passed, used, used_all, used_inner, used_of, with_pass}
use Rattle.ppp_bundle.specs.IpCalls.{called, called_of, finish_of, finished, followed, sends_all, turned, went_up_of}
use Rattle.ppp_bundle.specs.MayStand.{mrru_of}
use Rattle.ppp_bundle.specs.Sends.{sends, sends_of}
use Rattle.ppp_bundle.specs.State.{UnitState, is_open, members_of}
use Rattle.ppp_bundle.specs.UnitPart.{UnitPart, after_event, begun, entered_of, left_by, left_of, ticked_unit, timed}

-- What lives then has the members and the MRRU pair of what lived before.
abbrev pub From : (old new : Option Live) → Type 0
From old None = ⊤
From None (Some l) = ⊥
From (Some k) (Some l) = (l.members ≡ k.members) × (l.mrru ≡ k.mrru)

pub same : (o : Option Live) → From o o
same None = tt
same (Some l) = (refl, refl)

pub after : (a b c : Option Live) → From a b → From b c → From a c
after a b None f g = tt
after a None (Some l) f g = absurd g
after None (Some k) (Some l) f g = absurd f
after (Some j) (Some k) (Some l) f g = (g.0 ∙ f.0, g.1 ∙ f.1)

-- where it is the same
is_same : (o p : Option Live) → p ≡ o → From o p
is_same o p e = subst (λ (x : Option Live). From o x) (sym e) (same o)

either : {S : Type 0} (b : Bool) (o : Option Live) (x y : UnitState S) → From o x.live → From o y.live → From o (if b then x else y).live
either true o x y f g = f
either false o x y f g = g

closed_from : {S : Type 0} (o : Option Live) (e : Ending) (u : UnitState S) → u.live ≡ o → From o (closed_of o e u).live
closed_from None e u live = is_same None u.live live
closed_from (Some l) e u live = tt

pub ended_from : {S : Type 0} (e : Option Ending) (u : UnitState S) → From u.live (closed_if e u).live
ended_from None u = same u.live
ended_from (Some e) u = closed_from u.live e u refl

sending_from : (l : Live) (m : Option MrruPair) (protocol : ℕ) (information : List ℕ) → From (Some l) (Some (left_by_sending l m protocol information))
sending_from l None protocol information = (refl, refl)
sending_from l (Some m) protocol information = (refl, refl)

sends_from : {S : Type 0} (o : Option Live) (protocol : ℕ) (information : List ℕ) (u : UnitState S) → u.live ≡ o → From o (sends_of o protocol information u).live
sends_from None protocol information u live = is_same None u.live live
sends_from (Some l) protocol information u live = sending_from l l.mrru protocol information

all_sent_from : {S : Type 0} (packets : List Packet) (u : UnitState S) → From u.live (sends_all packets u).live
all_sent_from [] u = same u.live
all_sent_from (p ∷ packets) u =
    after u.live (sends IPCP (laid_packet p) u).live (sends_all packets (sends IPCP (laid_packet p) u)).live
    (sends_from u.live IPCP (laid_packet p) u refl) (all_sent_from packets (sends IPCP (laid_packet p) u))

up_from : {S : Type 0} (o : Option Live) (u : UnitState S) → u.live ≡ o → From o (went_up_of o u).live
up_from None u live = is_same None u.live live
up_from (Some l) u live = (refl, refl)

turned_from : {S : Type 0} (was is : Bool) (u : UnitState S) → From u.live (turned was is u).live
turned_from false false u = same u.live
turned_from true true u = same u.live
turned_from true false u = same u.live
turned_from false true u = up_from u.live u refl

finished_from : {S : Type 0} (has by_peer : Bool) (u : UnitState S) → From u.live (finished has by_peer u).live
finished_from true by_peer u = closed_from u.live (finish_of by_peer) u refl
finished_from false by_peer u = same u.live

followed_from : {S : Type 0} (was : Bool) (l : Live) (out : StepOut) (u : UnitState S) → From (Some l) (followed was l out u).live
followed_from {S = S} was l out u =
    let v : UnitState S = record u { live = Some l } in
    let w : UnitState S = sends_all out.packets v in
    let x : UnitState S = turned was (is_up l) w in
    after (Some l) w.live (finished (has_finished out.acts) l.by_peer x).live (all_sent_from out.packets v)
    (after w.live x.live (finished (has_finished out.acts) l.by_peer x).live (turned_from was (is_up l) w) (finished_from (has_finished out.acts) l.by_peer x))

call_from : {S : Type 0} (o : Option Live) (secrets : SecretsPair) (call : IpCall) (u : UnitState S) → u.live ≡ o → From o (called_of o secrets call u).live
call_from None secrets call u live = is_same None u.live live
call_from (Some l) secrets call u live =
    after (Some l) (Some (live_left secrets u.time call l)) (called_of (Some l) secrets call u).live (refl, refl)
    (followed_from (is_up l) (live_left secrets u.time call l) (live_tells secrets u.time call l) u)

called_from : {S : Type 0} (secrets : SecretsPair) (call : IpCall) (u : UnitState S) → From u.live (called secrets call u).live
called_from secrets call u = call_from u.live secrets call u refl

passed_from : (now : ℕ) (o : Option Live) → From o (passed now o)
passed_from now None = tt
passed_from now (Some l) = (refl, refl)

heard_from : {S : Type 0} (secrets : SecretsPair) (p : Option Packet) (u : UnitState S) → From u.live (heard secrets p u).live
heard_from secrets None u = same u.live
heard_from secrets (Some p) u = called_from secrets (Hears p) u

gave_from : {S : Type 0} (b : Bool) (datagram : List ℕ) (u : UnitState S) → From u.live (if b then with_pass (record u { given = u.given ++ datagram ∷ [] }) else not_open u).live
gave_from true datagram u = passed_from u.time u.live
gave_from false datagram u = same u.live

brought_by : {S : Type 0} (a b : Bool) (secrets : SecretsPair) (information : List ℕ) (u : UnitState S)
    → From u.live (if a then heard secrets (packet_in information) u else if b then gave information u else u).live
brought_by true b secrets information u = heard_from secrets (packet_in information) u
brought_by false true secrets information u = gave_from (is_open u.live) information u
brought_by false false secrets information u = same u.live

brought_from : {S : Type 0} (secrets : SecretsPair) (protocol : ℕ) (information : List ℕ) (u : UnitState S) → From u.live (brought secrets protocol information u).live
brought_from secrets protocol information u = brought_by (protocol == IPCP) (protocol == IP) secrets information u

inner_by : {S : Type 0} (a b c : Bool) (secrets : SecretsPair) (i : Inner) (u : UnitState S)
    → From u.live (if a then too_big u else if b then brought secrets i.protocol i.information u else if c then u else rejected i.protocol i.information u).live
inner_by true b c secrets i u = same u.live
inner_by false true c secrets i u = brought_from secrets i.protocol i.information u
inner_by false false true secrets i u = same u.live
inner_by false false false secrets i u = same u.live

inner_from : {S : Type 0} (secrets : SecretsPair) (mrru : Option MrruPair) (i : Option Inner) (u : UnitState S) → From u.live (used_inner secrets mrru i u).live
inner_from secrets mrru None u = same u.live
inner_from secrets mrru (Some i) u = inner_by (nat_lt (most_of_ours mrru) (length i.information)) (i.protocol == IPCP || i.protocol == IP) (i.protocol == LCP) secrets i u

used_from : {S : Type 0} (o : Option Live) (secrets : SecretsPair) (packet : List ℕ) (u : UnitState S) → u.live ≡ o → From u.live (used_of o secrets packet u).live
used_from None secrets packet u live = same u.live
used_from (Some l) secrets packet u live = inner_from secrets l.mrru (inner_of packet) u

all_used_from : {S : Type 0} (secrets : SecretsPair) (packets : List (List ℕ)) (u : UnitState S) → From u.live (used_all secrets packets u).live
all_used_from secrets [] u = same u.live
all_used_from {S = S} secrets (packet ∷ packets) u =
    let v : UnitState S = used secrets packet u in
    let w : UnitState S = looked v in
    after u.live v.live (used_all secrets packets w).live (used_from u.live secrets packet u refl)
    (after v.live w.live (used_all secrets packets w).live (ended_from (crowded_end v.scripts.log.past) v) (all_used_from secrets packets w))

carried_one : {S : Type 0} (b : Bool) (datagram : List ℕ) (u : UnitState S) → From u.live (if b then with_pass (sends IP datagram u) else too_big u).live
carried_one {S = S} true datagram u =
    let v : UnitState S = sends IP datagram u in
    after u.live v.live (with_pass v).live (sends_from u.live IP datagram u refl) (passed_from v.time v.live)
carried_one false datagram u = same u.live

carried_by_from : {S : Type 0} (o : Option Live) (datagram : List ℕ) (u : UnitState S) → From u.live (carried_by o datagram u).live
carried_by_from None datagram u = same u.live
carried_by_from (Some l) datagram u = carried_one (nat_le (length datagram) (most_to_peer l)) datagram u

carried_from : {S : Type 0} (b : Bool) (datagram : List ℕ) (u : UnitState S) → From u.live (if b then carried_by u.live datagram u else not_open u).live
carried_from true datagram u = carried_by_from u.live datagram u
carried_from false datagram u = same u.live

framed_by : {S : Type 0} (a b : Bool) (secrets : SecretsPair) (protocol : ℕ) (information : List ℕ) (packets : List (List ℕ)) (u : UnitState S)
    → From u.live (if a then (if b then used_all secrets packets u else brought secrets protocol information u) else stranger u).live
framed_by true true secrets protocol information packets u = all_used_from secrets packets u
framed_by true false secrets protocol information packets u = brought_from secrets protocol information u
framed_by false b secrets protocol information packets u = same u.live

begun_from : {S : Type 0} (members : List Member) (secrets : SecretsPair) (u : UnitState S) → From u.live (begun members secrets u).live
begun_from {S = S} [] secrets u =
    let v : UnitState S = called secrets Opens u in
    after u.live v.live (called secrets ComesUp v).live (called_from secrets Opens u) (called_from secrets ComesUp v)
begun_from (m ∷ members) secrets u = same u.live

-- with a member more, and with one less
abbrev pub joined : (link stay mru : ℕ) → Option Live → Option Live
joined link stay mru None = None
joined link stay mru (Some l) = Some (record l { members = with_member (member link stay mru) l.members })

abbrev pub parted : (link : ℕ) → Option Live → Option Live
parted link None = None
parted link (Some l) = Some (record l { members = without link l.members })

entered_from : {S : Type 0} (o : Option Live) (secrets : SecretsPair) (link stay mru : ℕ) (u : UnitState S) → u.live ≡ o → From (joined link stay mru o) (entered_of o secrets link stay mru u).live
entered_from None secrets link stay mru u live = is_same None u.live live
entered_from {S = S} (Some l) secrets link stay mru u live =
    let v : UnitState S = record u {
      scripts = marked (in_mark u.time link stay) u.scripts;
      live = Some (record l { members = with_member (member link stay mru) l.members });
    } in
    begun_from l.members secrets v

left_by_from : {S : Type 0} (left : List Member) (secrets : SecretsPair) (l : Live) (link stay : ℕ) (packets : List (List ℕ)) (u : UnitState S)
    → From (Some (record l { members = left })) (left_by left secrets l link stay packets u).live
left_by_from [] secrets l link stay packets u = tt
left_by_from (m ∷ members) secrets l link stay packets u =
    all_used_from secrets packets (record u { scripts = marked (out_mark u.time link stay) u.scripts; live = Some (record l { members = m ∷ members }) })

left_from : {S : Type 0} (o : Option Live) (secrets : SecretsPair) (link stay : ℕ) (packets : List (List ℕ)) (u : UnitState S) → u.live ≡ o → From (parted link o) (left_of o secrets link stay packets u).live
left_from None secrets link stay packets u live = is_same None u.live live
left_from (Some l) secrets link stay packets u live = left_by_from (without link l.members) secrets l link stay packets u

ticked_from : {S : Type 0} (secrets : SecretsPair) (now : ℕ) (u : UnitState S) → From u.live (ticked_unit secrets now u).live
ticked_from {S = S} secrets now u =
    let v : UnitState S = timed now u in
    let w : UnitState S = called secrets Ticks v in
    let x : UnitState S = idled w in
    after u.live w.live (connected_long x).live (called_from secrets Ticks v)
    (after w.live x.live (connected_long x).live (ended_from (idle_end w.time w.live) w) (ended_from (connect_end x.time x.live) x))

-- what lives by an event, as far as this says
abbrev pub goes_by : {S : Type 0} → BundleEvent S → Option Live → Option Live
goes_by (Make number maker wish mrru allow) o = Some (new_live number 0 wish mrru allow)
goes_by (In link stay mru) o = joined link stay mru o
goes_by (Out link stay) o = parted link o
goes_by (Frame link protocol information) o = o
goes_by (Datagram datagram) o = o
goes_by (Tick now) o = o
goes_by (HookOver done) o = o

event_from : {S : Type 0} (secrets : SecretsPair) (event : BundleEvent S) (packets : List (List ℕ)) (u : UnitState S) → From (goes_by event u.live) (after_event secrets event packets u).live
event_from secrets (Make number maker wish mrru allow) packets u = (refl, refl)
event_from secrets (In link stay mru) packets u = entered_from u.live secrets link stay mru u refl
event_from secrets (Out link stay) packets u = left_from u.live secrets link stay packets u refl
event_from secrets (Frame link protocol information) packets u = framed_by (has_link link (members_of u.live)) (protocol == MULTILINK) secrets protocol information packets u
event_from secrets (Datagram datagram) packets u = carried_from (is_open u.live) datagram u
event_from secrets (Tick now) packets u = ticked_from secrets now u
event_from secrets (HookOver done) packets u = same u.live

pub live_from : {S : Type 0} (secrets : SecretsPair) (event : BundleEvent S) (was is : UnitState S) → UnitPart secrets event was is → From (goes_by event was.live) is.live
live_from {S = S} secrets event was is part =
    let u : UnitState S = record was { gather = part.gathered.gather; ended = None } in
    let v : UnitState S = after_event secrets event part.gathered.packets u in
    subst (λ (x : UnitState S). From (goes_by event was.live) x.live) (sym part.after)
    (after (goes_by event was.live) v.live (looked v).live (event_from secrets event part.gathered.packets u) (ended_from (crowded_end v.scripts.log.past) v))

-- A bundle that is made lives.
pub made_lives : {S : Type 0} (secrets : SecretsPair) (number maker : ℕ) (wish : UnitWish) (mrru : Option MrruPair) (allow : Allow) (was is : UnitState S)
    → UnitPart secrets (Make number maker wish mrru allow) was is → is.live ≡ Some (new_live number (length was.scripts.log.past) wish mrru allow)
made_lives {S = S} secrets number maker wish mrru allow was is part = ap (λ (x : UnitState S). x.live) part.after
