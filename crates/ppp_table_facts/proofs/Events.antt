-- What each event leaves of a unit: its scripts say whether IP is open, and its log has room.
use Rattle.std.proofs.Common.{◌≡◌, ℕ, ◌+◌, ◌<◌, ◌≤◌, ◌==◌, ◌||◌, Bool, true, false, Option, None, Some, List, [], ◌∷◌, ◌++◌, length, refl, ap, sym, ◌∙◌, subst, arith}
use Rattle.std.proofs.lemmas.Bool.Decides.{nat_tests}
use Rattle.std.specs.Prelude.{IfSome, is_some, nat_le, nat_lt, if◌then◌else◌}
use Rattle.ppp_base.specs.declared.allow.Allow.{Allow}
use Rattle.ppp_base.specs.declared.protocol.TheConstants.{IP, IPCP, LCP, MULTILINK}
use Rattle.ppp_base.specs.Mrru.{MrruPair}
use Rattle.ppp_hooks.specs.declared.facts.HookFacts.{HookFacts}
use Rattle.ppp_hooks.specs.HookFacts.{opening_number, settled, with_end}
use Rattle.ppp_hooks.specs.HookState.{DoneState}
use Rattle.ppp_mark.specs.Log.{room_of}
use Rattle.ppp_mark.specs.Marks.{in_mark, made_mark, out_mark}
use Rattle.ppp_mark.specs.ScriptLog.{IsRunningJob}
use Rattle.ppp_packet.specs.declared.packet.Packet.{Packet}
use Rattle.ppp_packet.specs.PacketOf.{packet_in}
use Rattle.ppp_secrets.specs.declared.secrets.SecretsPair.{SecretsPair}
use Rattle.ppp_unit_parts.specs.declared.live.IpCall.TheVariants.{ComesUp, Hears, Opens, Ticks}
use Rattle.ppp_unit_parts.specs.declared.live.Live.{Live}
use Rattle.ppp_unit_parts.specs.declared.member.Member.{Member}
use Rattle.ppp_unit_parts.specs.declared.outbox.Ending.{Ending}
use Rattle.ppp_unit_parts.specs.declared.wish.UnitWish.{UnitWish}
use Rattle.ppp_unit_parts.specs.Live.{ending, most_of_ours, most_to_peer, new_live}
use Rattle.ppp_unit_parts.specs.Member.{AreInOrder, has_link, member, with_member, without}
use Rattle.ppp_unit_parts.proofs.MemberFacts.{order_with, order_without}
use Rattle.ppp_base.specs.declared.posts.CloseCause.TheVariants.{TooManyChanges}
use Rattle.ppp_bundle.specs.declared.event.BundleEvent.{BundleEvent}
use Rattle.ppp_bundle.specs.declared.event.BundleEvent.TheVariants.{Make, In, Out, Frame, Datagram, Tick, HookOver}
use Rattle.ppp_bundle.specs.Closing.{closed_if, connect_end, idle_end, idled, looked, unmade}
use Rattle.ppp_bundle.specs.Frames.{Inner, bad_inner, brought, carried, carried_by, gave, heard, inner_of, not_open, passed, rejected, stranger, too_big, used, used_all, used_inner, used_of, with_pass}
use Rattle.ppp_bundle.specs.IpCalls.{called}
use Rattle.ppp_bundle.specs.Replay.{since_made}
use Rattle.ppp_bundle.specs.ScriptParts.{marked, over}
use Rattle.ppp_bundle.specs.Sends.{sends}
use Rattle.ppp_bundle.specs.Sound.{owed}
use Rattle.ppp_bundle.specs.State.{UnitState, is_open, members_of}
use Rattle.ppp_bundle.specs.UnitPart.{IsFresh, IsLinkNumber, MayCome, MayEnter, after_event, begun, entered_of, framed, left_by, left_of, made, script_over, ticked_unit, timed}
use Rattle.ppp_bundle.proofs.SoundFacts.{at_some, by_none}
use Rattle.ppp_table_facts.proofs.Owing.{owed_more}
use Rattle.ppp_table_facts.proofs.Pieces.{At, SameLive, Stays, again, called_at, closed_at, closed_if_at, gone, less_room, longer, same_live, sends_open, sends_stay, unmade_adds_so, unmade_says_so}
use Rattle.ppp_table_facts.proofs.Scripts.{Ran, Says, in_adds, in_says, made_says, out_adds, out_says, over_adds, over_says, ran}

-- THE MARKS ARE COUNTED

calm_by : {S : Type 0} (o : Option Live) (room : ℕ) (up : Bool) (u : UnitState S) → u.live ≡ o → since_made u.scripts.log.past < 900 → Stays room up u → IfSome o (λ l. 124 ≤ room_of u.scripts.log)
calm_by None room up u live few h = tt
calm_by (Some l) room up u live few h =
    let since : length u.scripts.log.past ≡ l.made_at + since_made u.scripts.log.past = at_some u.live l _ live h.since in
    let limit : l.made_at + 1024 ≤ u.scripts.log.limit = at_some u.live l _ live h.limit in
    omega (arith, since, limit, few)

pub calm : {S : Type 0} (room : ℕ) (up : Bool) (u : UnitState S) → since_made u.scripts.log.past < 900 → Stays room up u → Stays 124 up u
calm room up u few h = record { says = h.says; order = h.order; since = h.since; limit = h.limit; spare = calm_by u.live room up u refl few h; owes = h.owes; time = h.time }

look_by : {S : Type 0} (b : Bool) (room : ℕ) (e : Ending) (u : UnitState S) → nat_le 900 (since_made u.scripts.log.past) ≡ b → 26 ≤ room → At room u → At 124 (closed_if (if b then Some e else None) u)
look_by true room e u is enough h = closed_at room 124 e u enough h
look_by false room e u is enough h = calm room (is_open u.live) u (grind (arith, nat_tests)) h

pub looked_at : {S : Type 0} (room : ℕ) (u : UnitState S) → 26 ≤ room → At room u → At 124 (looked u)
looked_at room u enough h = look_by (nat_le 900 (since_made u.scripts.log.past)) room (ending TooManyChanges 0) u refl enough h

-- WHAT COMES

either : {S : Type 0} (b : Bool) (room : ℕ) (u v : UnitState S) → At room u → At room v → At room (if b then u else v)
either true room u v f g = f
either false room u v f g = g

-- neither the log nor the bundle changes
pub untouched : {S : Type 0} (room : ℕ) (u v : UnitState S) → v.scripts ≡ u.scripts → v.unit ≡ u.unit → v.time ≡ u.time → v.live ≡ u.live → At room u → At room v
untouched room u v scripts unit time live h =
    subst (λ (b : Bool). Stays room b v) (sym (ap is_open live)) (again room (is_open u.live) u v scripts unit time (subst (λ (o : Option Live). SameLive u.live o) (sym live) (same_live u.live)) h)

passed_same : (now : ℕ) (o : Option Live) → SameLive o (passed now o)
passed_same now None = tt
passed_same now (Some l) = (refl, refl)

passed_open : (now : ℕ) (o : Option Live) → is_open (passed now o) ≡ is_open o
passed_open now None = refl
passed_open now (Some l) = refl

pass_at : {S : Type 0} (room : ℕ) (u : UnitState S) → At room u → At room (with_pass u)
pass_at room u h = subst (λ (b : Bool). Stays room b (with_pass u)) (sym (passed_open u.time u.live)) (again room (is_open u.live) u (with_pass u) refl refl refl (passed_same u.time u.live) h)

gave_at : {S : Type 0} (room : ℕ) (datagram : List ℕ) (u : UnitState S) → At room u → At room (gave datagram u)
gave_at {S = S} room datagram u h =
    let v : UnitState S = record u { given = u.given ++ datagram ∷ [] } in
    either (is_open u.live) room (with_pass v) (not_open u) (pass_at room v (untouched room u v refl refl refl refl h)) (untouched room u (not_open u) refl refl refl refl h)

less : {S : Type 0} (room : ℕ) (u : UnitState S) → At (room + 4) u → At room u
less room u h = less_room (room + 4) room (is_open u.live) u (omega arith) h

heard_at : {S : Type 0} (room : ℕ) (secrets : SecretsPair) (p : Option Packet) (u : UnitState S) → 26 ≤ room → At (room + 4) u → At room (heard secrets p u)
heard_at room secrets None u enough h = less room u h
heard_at room secrets (Some p) u enough h = called_at secrets (Hears p) room u enough h

brought_at : {S : Type 0} (room : ℕ) (secrets : SecretsPair) (protocol : ℕ) (information : List ℕ) (u : UnitState S) → 26 ≤ room → At (room + 4) u → At room (brought secrets protocol information u)
brought_at room secrets protocol information u enough h =
    either (protocol == IPCP) room (heard secrets (packet_in information) u) (if protocol == IP then gave information u else u) (heard_at room secrets (packet_in information) u enough h)
    (either (protocol == IP) room (gave information u) u (gave_at room information u (less room u h)) (less room u h))

inner_at : {S : Type 0} (room : ℕ) (secrets : SecretsPair) (mrru : Option MrruPair) (i : Option Inner) (u : UnitState S) → 26 ≤ room → At (room + 4) u → At room (used_inner secrets mrru i u)
inner_at room secrets mrru None u enough h = untouched room u (bad_inner u) refl refl refl refl (less room u h)
inner_at room secrets mrru (Some i) u enough h =
    either (nat_lt (most_of_ours mrru) (length i.information)) room (too_big u)
    (if i.protocol == IPCP || i.protocol == IP then brought secrets i.protocol i.information u else if i.protocol == LCP then u else rejected i.protocol i.information u)
    (untouched room u (too_big u) refl refl refl refl (less room u h))
    (either (i.protocol == IPCP || i.protocol == IP) room (brought secrets i.protocol i.information u) (if i.protocol == LCP then u else rejected i.protocol i.information u)
    (brought_at room secrets i.protocol i.information u enough h)
    (either (i.protocol == LCP) room u (rejected i.protocol i.information u) (less room u h) (untouched room u (rejected i.protocol i.information u) refl refl refl refl (less room u h))))

used_by : {S : Type 0} (o : Option Live) (room : ℕ) (secrets : SecretsPair) (packet : List ℕ) (u : UnitState S) → 26 ≤ room → At (room + 4) u → At room (used_of o secrets packet u)
used_by None room secrets packet u enough h = untouched room u (not_open u) refl refl refl refl (less room u h)
used_by (Some l) room secrets packet u enough h = inner_at room secrets l.mrru (inner_of packet) u enough h

pub used_all_at : {S : Type 0} (secrets : SecretsPair) (packets : List (List ℕ)) (u : UnitState S) → At 100 u → At 100 (used_all secrets packets u)
used_all_at secrets [] u h = h
used_all_at {S = S} secrets (packet ∷ packets) u h =
    let v : UnitState S = used secrets packet u in
    let w : UnitState S = looked v in
    let next : At 124 w = looked_at 96 v (omega arith) (used_by u.live 96 secrets packet u (omega arith) h) in
    used_all_at secrets packets w (less_room 124 100 (is_open w.live) w (omega arith) next)

carried_by_at : {S : Type 0} (o : Option Live) (room : ℕ) (datagram : List ℕ) (u : UnitState S) → At room u → At room (carried_by o datagram u)
carried_by_at None room datagram u h = untouched room u (not_open u) refl refl refl refl h
carried_by_at {S = S} (Some l) room datagram u h =
    let v : UnitState S = sends IP datagram u in
    let there : At room v = subst (λ (b : Bool). Stays room b v) (sym (sends_open u.live IP datagram u refl)) (sends_stay u.live room (is_open u.live) IP datagram u refl h) in
    either (nat_le (length datagram) (most_to_peer l)) room (with_pass v) (too_big u) (pass_at room v there) (untouched room u (too_big u) refl refl refl refl h)

carried_at : {S : Type 0} (room : ℕ) (datagram : List ℕ) (u : UnitState S) → At room u → At room (carried datagram u)
carried_at room datagram u h = either (is_open u.live) room (carried_by u.live datagram u) (not_open u) (carried_by_at u.live room datagram u h) (untouched room u (not_open u) refl refl refl refl h)

framed_at : {S : Type 0} (secrets : SecretsPair) (link protocol : ℕ) (information : List ℕ) (packets : List (List ℕ)) (u : UnitState S) → At 124 u → At 100 (framed secrets link protocol information packets u)
framed_at {S = S} secrets link protocol information packets u h =
    let less_now : At 100 u = less_room 124 100 (is_open u.live) u (omega arith) h in
    let most : At 104 u = less_room 124 104 (is_open u.live) u (omega arith) h in
    either (has_link link (members_of u.live)) 100 (if protocol == MULTILINK then used_all secrets packets u else brought secrets protocol information u) (stranger u)
    (either (protocol == MULTILINK) 100 (used_all secrets packets u) (brought secrets protocol information u) (used_all_at secrets packets u less_now) (brought_at 100 secrets protocol information u (omega arith) most))
    (untouched 100 u (stranger u) refl refl refl refl less_now)

-- A MOMENT

timed_at : {S : Type 0} (room now : ℕ) (u : UnitState S) → At room u → At room (timed now u)
timed_at room now u h = record { says = h.says; order = h.order; since = h.since; limit = h.limit; spare = h.spare; owes = h.owes; time = omega (arith, h.time) }

ticked_at : {S : Type 0} (secrets : SecretsPair) (now : ℕ) (u : UnitState S) → At 124 u → At 100 (ticked_unit secrets now u)
ticked_at {S = S} secrets now u h =
    let v : UnitState S = timed now u in
    let w : UnitState S = called secrets Ticks v in
    let x : UnitState S = idled w in
    let ticks : At 100 w = called_at secrets Ticks 100 v (omega arith) (less_room 124 104 (is_open v.live) v (omega arith) (timed_at 124 now u h)) in
    closed_if_at 100 (connect_end x.time x.live) x (omega arith) (closed_if_at 100 (idle_end w.time w.live) w (omega arith) ticks)

-- LINKS

begun_at : {S : Type 0} (members : List Member) (secrets : SecretsPair) (u : UnitState S) → At 123 u → At 100 (begun members secrets u)
begun_at {S = S} [] secrets u h =
    let v : UnitState S = called secrets Opens u in
    let opens : At 104 v = called_at secrets Opens 104 u (omega arith) (less_room 123 108 (is_open u.live) u (omega arith) h) in
    called_at secrets ComesUp 100 v (omega arith) opens
begun_at (m ∷ members) secrets u h = less_room 123 100 (is_open u.live) u (omega arith) h

entered_at : {S : Type 0} (o : Option Live) (secrets : SecretsPair) (link stay mru : ℕ) (u : UnitState S) → u.live ≡ o → MayEnter o link mru → 1 ≤ link → link ≤ 16 → At 124 u → At 100 (entered_of o secrets link stay mru u)
entered_at None secrets link stay mru u live may low high h = absurd may
entered_at {S = S} (Some l) secrets link stay mru u live may low high h =
    let k : Live = record l { members = with_member (member link stay mru) l.members } in
    let v : UnitState S = record u { scripts = marked (in_mark u.time link stay) u.scripts; live = Some k } in
    let order : AreInOrder 0 l.members = subst (λ (o : Option Live). AreInOrder 0 (members_of o)) live h.order in
    let here : Stays 123 (is_open u.live) v =
    longer 1 123 (is_open u.live) (is_open u.live) u l k (marked (in_mark u.time link stay) u.scripts) live (in_adds u.scripts u.time link stay) (in_says u.unit (is_open u.live) u.scripts u.time link stay h.says)
    (order_with 0 (member link stay mru) l.members order may.1 low high may.2 may.3) refl h in
    begun_at l.members secrets v (subst (λ (b : Bool). Stays 123 b v) (ap is_open live) here)

left_at_by : {S : Type 0} (left : List Member) (secrets : SecretsPair) (l : Live) (link stay : ℕ) (packets : List (List ℕ)) (u : UnitState S) → u.live ≡ Some l → without link l.members ≡ left → At 124 u
    → At 100 (left_by left secrets l link stay packets u)
left_at_by [] secrets l link stay packets u live is h =
    let order : AreInOrder 0 l.members = subst (λ (o : Option Live). AreInOrder 0 (members_of o)) live h.order in
    gone 19 124 100 (is_open u.live) u (record u { scripts = unmade l u.time u.scripts; live = None }) l live (unmade_adds_so u.unit u.time (is_open u.live) l u.scripts order h.says)
    (unmade_says_so u.unit u.time (is_open u.live) l u.scripts h.says) refl refl (omega arith) h
left_at_by {S = S} (m ∷ members) secrets l link stay packets u live is h =
    let k : Live = record l { members = m ∷ members } in
    let v : UnitState S = record u { scripts = marked (out_mark u.time link stay) u.scripts; live = Some k } in
    let order : AreInOrder 0 l.members = subst (λ (o : Option Live). AreInOrder 0 (members_of o)) live h.order in
    let here : Stays 123 (is_open u.live) v =
    longer 1 123 (is_open u.live) (is_open u.live) u l k (marked (out_mark u.time link stay) u.scripts) live (out_adds u.scripts u.time link stay) (out_says u.unit (is_open u.live) u.scripts u.time link stay h.says)
    (subst (λ (ms : List Member). AreInOrder 0 ms) is (order_without 0 link l.members order)) refl h in
    used_all_at secrets packets v (less_room 123 100 (is_open v.live) v (omega arith) (subst (λ (b : Bool). Stays 123 b v) (ap is_open live) here))

left_at : {S : Type 0} (o : Option Live) (secrets : SecretsPair) (link stay : ℕ) (packets : List (List ℕ)) (u : UnitState S) → u.live ≡ o → At 124 u → At 100 (left_of o secrets link stay packets u)
left_at None secrets link stay packets u live h = less_room 124 100 (is_open u.live) u (omega arith) h
left_at (Some l) secrets link stay packets u live h = left_at_by (without link l.members) secrets l link stay packets u live refl h

made_at : {S : Type 0} (number maker : ℕ) (wish : UnitWish) (mrru : Option MrruPair) (allow : Allow) (u : UnitState S) → u.live ≡ None → 1024 ≤ room_of u.scripts.log → At 124 u → At 100 (made number maker wish mrru allow u)
made_at number maker wish mrru allow u live room h = record {
  says = subst (λ (b : Bool). Says u.unit b (marked (made_mark u.time maker number) u.scripts)) (ap is_open live) (made_says u.unit (is_open u.live) u.scripts u.time maker number h.says);
  order = tt;
  since = omega arith;
  limit = omega (arith, room);
  spare = omega (arith, room);
  owes = λ e. absurd (let f : Some (new_live number (length u.scripts.log.past) wish mrru allow) ≡ None = e in cc);
  time = h.time;
}

-- A SCRIPT HAS ENDED

open_same : {S : Type 0} (u : UnitState S) (up : Bool) → Says u.unit up u.scripts → is_some u.scripts.machine.facts.now_open ≡ up
open_same u up h = number_some u.scripts.machine.facts.now_open ∙ ap (λ (o : Option ℕ). is_some o) h.keeps.stands.keeps.now_open ∙ h.is_open
  where
    number_some : (o : Option _) → is_some o ≡ is_some (opening_number o)
    number_some None = refl
    number_some (Some x) = refl

over_by : {S : Type 0} (o : Option Live) (done : DoneState S) (u : UnitState S) → u.live ≡ o → IsRunningJob done u.scripts → At 124 u → At 100 (script_over done u)
over_by {S = S} None done u live runs h =
    let f : HookFacts = u.scripts.machine.facts in
    let r : Ran u.scripts = ran u.unit (is_open u.live) done u.scripts runs h.says in
    let shut_now : is_some f.now_open ≡ false = open_same u (is_open u.live) h.says ∙ ap is_open live in
    let owes : owed (settled (with_end f done.answer)) + 2 ≤ owed f = owed_more f.now_open f.last f.greatest f.starts f.ends f.not_started _ shut_now r.one in
    let before : owed f + 2 ≤ room_of u.scripts.log = h.owes live in
    let adds : _ = over_adds done u.time u.scripts in
    record {
      says = over_says u.unit (is_open u.live) done u.time u.scripts runs h.says;
      order = h.order;
      since = by_none u.live _ live;
      limit = by_none u.live _ live;
      spare = by_none u.live _ live;
      owes = λ e. omega (arith, owes, before, adds.few, adds.limit);
      time = h.time;
    }
over_by {S = S} (Some l) done u live runs h =
    let order : AreInOrder 0 l.members = subst (λ (o : Option Live). AreInOrder 0 (members_of o)) live h.order in
    let here : Stays 122 (is_open u.live) (record u { scripts = over done u.time u.scripts; live = Some l }) =
    longer 2 122 (is_open u.live) (is_open u.live) u l l (over done u.time u.scripts) live (over_adds done u.time u.scripts) (over_says u.unit (is_open u.live) done u.time u.scripts runs h.says) order refl h in
    less_room 122 100 (is_open u.live) (script_over done u) (omega arith)
    (subst (λ (o : Option Live). Stays 122 (is_open u.live) (record u { scripts = over done u.time u.scripts; live = o })) (sym live) here)

-- EACH EVENT

pub event_at : {S : Type 0} (secrets : SecretsPair) (event : BundleEvent S) (packets : List (List ℕ)) (u : UnitState S) → IsLinkNumber event → MayCome event u → IsFresh event u → At 124 u
    → At 100 (after_event secrets event packets u)
event_at secrets (Make number maker wish mrru allow) packets u is may fresh h = made_at number maker wish mrru allow u may.0 may.1 h
event_at secrets (In link stay mru) packets u is may fresh h = entered_at u.live secrets link stay mru u refl may is.0 is.1 h
event_at secrets (Out link stay) packets u is may fresh h = left_at u.live secrets link stay packets u refl h
event_at secrets (Frame link protocol information) packets u is may fresh h = framed_at secrets link protocol information packets u h
event_at secrets (Datagram datagram) packets u is may fresh h = carried_at 100 datagram u (less_room 124 100 (is_open u.live) u (omega arith) h)
event_at secrets (Tick now) packets u is may fresh h = ticked_at secrets now u h
event_at secrets (HookOver done) packets u is may fresh h = over_by u.live done u refl fresh h
