-- What was gathered is used, packet by packet: what has happened goes on with each, and what is left at an end is dropped.
use Rattle.std.proofs.Common.{◌≡◌, ◌⊎◌, inl, inr, ℕ, Bool, true, false, Option, None, Some, List, [], ◌∷◌, ◌++◌, length, refl, ap, sym, subst, ◌∙◌, append_assoc, append-nil, arith}
use Rattle.std.proofs.lemmas.Bool.Decides.{nat_tests}
use Rattle.std.specs.List.{filter}
use Rattle.std.specs.Prelude.{if◌then◌else◌, ◌==◌, ◌&&◌, ◌||◌, nat_le, nat_lt, not}
use Rattle.ppp_base.specs.Mrru.{MrruPair}
use Rattle.ppp_base.specs.declared.allow.Allow.{Allow}
use Rattle.ppp_base.specs.declared.posts.CloseCause.TheVariants.{Idle}
use Rattle.ppp_base.specs.declared.protocol.TheConstants.{IP, IPCP, LCP}
use Rattle.ppp_control.specs.Rules.{hears}
use Rattle.ppp_ipcp.specs.Around.{Around, around}
use Rattle.ppp_mp.specs.StandsFor.{GatherNow}
use Rattle.ppp_mp.specs.declared.members.MemberView.{MemberView}
use Rattle.ppp_packet.specs.declared.packet.Packet.{Packet}
use Rattle.ppp_packet.specs.PacketOf.{packet_in}
use Rattle.ppp_secrets.specs.declared.secrets.SecretsPair.{SecretsPair}
use Rattle.ppp_unit_parts.specs.declared.live.IpCall.TheVariants.{Hears}
use Rattle.ppp_unit_parts.specs.declared.live.Live.{Live}
use Rattle.ppp_unit_parts.specs.declared.member.Member.{Member}
use Rattle.ppp_unit_parts.specs.declared.outbox.BundleEnd.{BundleEnd}
use Rattle.ppp_unit_parts.specs.declared.outbox.Ending.{Ending}
use Rattle.ppp_unit_parts.specs.declared.outbox.Sending.{Sending}
use Rattle.ppp_unit_parts.specs.declared.outbox.UnitCounts.{UnitCounts}
use Rattle.ppp_unit_parts.specs.Calls.{around_of}
use Rattle.ppp_unit_parts.specs.Live.{is_up, most_of_ours}
use Rattle.ppp_unit_parts.specs.Member.{views_of}
use Rattle.ppp_bundle.specs.Closing.{closed_if, closed_of, crowded_end, looked}
use Rattle.ppp_bundle.specs.Frames.{Inner, brought, gave, heard, inner_of, not_open, rejected, too_big, used, used_all, used_inner, used_of, with_pass}
use Rattle.ppp_bundle.specs.History.{Moment, Calls, Drop, Gathered, Terms, BadInner, NotOpen, TooBig, asked_in, brought_by, calls_in, counted, counts_in, drops_by, entered_in, gathered_in, given_by, given_in, is_refused, is_up_in, left_out, most_in, passed_in, rejection_by, rejects_by, sends_by, time_in, to_hear, views_up_to}
use Rattle.ppp_bundle.specs.IpCalls.{called}
use Rattle.ppp_bundle.specs.Lives.{GathersAll, HasMember, HearsWith, LivesOrEnds, Reached, SendsSince, is_rejected, is_sent, own_in}
use Rattle.ppp_bundle.specs.Sends.{rejection}
use Rattle.ppp_bundle.specs.State.{UnitState}
use Rattle.ppp_bundle.proofs.CallMoments.{call_made, reached_sends, up_is}
use Rattle.ppp_bundle.proofs.EventMoments.{Dead, call_on, calm_on, either_of, flows_keep, keeps_if, looked_calm, looked_either}
use Rattle.ppp_bundle.proofs.MidMoments.{Calm, Flows, Mid, flows_quiet, fresh_calm}
use Rattle.ppp_bundle.proofs.PassMoments.{most_is}
use Rattle.ppp_bundle.proofs.PieceMoments.{cuts_then, rejects_more}
use Rattle.ppp_bundle.proofs.StepMoments.{Does}

-- WHAT IS GATHERED

gathers_next : (m : Option MrruPair) (gather : GatherNow) (secrets : SecretsPair) (packet : List ℕ) (past : List Moment) (left : List (List ℕ)) → GathersAll m gather past (packet ∷ left) → GathersAll m gather (Gathered secrets packet ∷ past) left
gathers_next None gather secrets packet past left h = absurd (let f : packet ∷ left ≡ [] = h.1 in cc)
gathers_next (Some mrru) gather secrets packet past left h = (h.0, h.1, h.2 ∙ sym (append_assoc (gathered_in past) (packet ∷ []) left), h.3)

is_multilink : (m : Option MrruPair) (gather : GatherNow) (packet : List ℕ) (past : List Moment) (left : List (List ℕ)) → GathersAll m gather past (packet ∷ left) → m ≡ None → ⊥
is_multilink None gather packet past left h e = absurd (let f : packet ∷ left ≡ [] = h.1 in cc)
is_multilink (Some mrru) gather packet past left h e = absurd (let f : Some mrru ≡ None = e in cc)

some_next : (m : Option MrruPair) (members : List Member) (secrets : SecretsPair) (packet : List ℕ) (past : List Moment) → HasMember m members past → HasMember m members (Gathered secrets packet ∷ past)
some_next None members secrets packet past h = h
some_next (Some mrru) members secrets packet past h = h

reached_next : (terms : Terms) (past : List Moment) (secrets : SecretsPair) (packet : List ℕ) (left : List (List ℕ)) (time : ℕ) (gather : GatherNow) (l : Live) (at : ℕ) → Reached terms time gather l past (packet ∷ left) → asked_in terms past ≡ []
    → at ≡ passed_in terms (Gathered secrets packet ∷ past) → Reached terms time gather (record l { passed_at = at }) (Gathered secrets packet ∷ past) left
reached_next terms past secrets packet left time gather l at r done e = record {
  order = (done, r.order);
  ipcp = r.ipcp;
  gathers = gathers_next terms.mrru gather secrets packet past left r.gathers;
  cuts = cuts_then terms past terms.mrru (Gathered secrets packet) l (reached_sends terms past time gather (packet ∷ left) l r) r.cuts;
  members = r.members;
  in_order = r.in_order;
  some = some_next terms.mrru l.members secrets packet past r.some;
  initial = r.initial;
  time_is = r.time_is;
  wish = r.wish;
  allow = r.allow;
  mrru = r.mrru;
  was_open = r.was_open;
  by_peer = r.by_peer;
  opened_at = r.opened_at;
  passed_at = e;
}

-- ONE PACKET

-- what happens by one packet, with these left
pub record Uses {S : Type 0} (terms : Terms) (since past : List Moment) (secrets : SecretsPair) (left : List (List ℕ)) (counts : UnitCounts) (u : UnitState S) : Type 0 where
  pub more : List Moment
  pub own_is : own_in more ≡ own_in since
  pub hears : HearsWith secrets since → HearsWith secrets more
  pub came : entered_in (more ++ past) ≡ None → ⊥
  pub stands : Mid terms (more ++ past) [] left u ⊎ Dead terms (more ++ past) left u
  pub calm : Calm u
  pub flows : Flows terms more past [] counts u

-- what is known as a packet is used
pub record Using {S : Type 0} (terms : Terms) (since past : List Moment) (packet : List ℕ) (left : List (List ℕ)) (counts : UnitCounts) (l : Live) (u : UnitState S) : Type 0 where
  pub mid : Mid terms (since ++ past) [] (packet ∷ left) (record u { live = Some l })
  pub reached : Reached terms u.time u.gather l (since ++ past) (packet ∷ left)
  pub came : entered_in (since ++ past) ≡ None → ⊥
  pub calm : Calm (record u { live = Some l })
  pub flows : Flows terms since past [] counts (record u { live = Some l })

-- no call of IPCP, and nothing to reject
next_still : {S : Type 0} (terms : Terms) (since past : List Moment) (secrets : SecretsPair) (packet : List ℕ) (left : List (List ℕ)) (counts : UnitCounts) (l : Live) (u : UnitState S) (at : ℕ) (given : List (List ℕ)) (dropped : UnitCounts)
    → Using terms since past packet left counts l u → asked_in terms (Gathered secrets packet ∷ since ++ past) ≡ [] → rejects_by terms (Gathered secrets packet) (since ++ past) ≡ []
    → at ≡ passed_in terms (Gathered secrets packet ∷ since ++ past)
    → given ≡ u.given ++ given_by terms (Gathered secrets packet) (since ++ past) → dropped ≡ counted (drops_by terms (Gathered secrets packet) (since ++ past)) u.counts
    → Calm (record u { live = Some (record l { passed_at = at }) })
    → Uses terms since past secrets left counts (record u { live = Some (record l { passed_at = at }); given = given; counts = dropped })
next_still {S = S} terms since past secrets packet left counts l u at given dropped h asked none is gives drops calm = record {
  more = Gathered secrets packet ∷ since;
  own_is = refl;
  hears = λ h. (refl, h);
  came = h.came;
  stands = inl (record {
    l = record l { passed_at = at };
    live = refl;
    reached = reached_next terms (since ++ past) secrets packet left u.time u.gather l at h.reached h.mid.asked_is is;
    asked_is = asked;
    going = h.mid.going;
    ended = h.mid.ended;
    target = h.mid.target;
  });
  calm = record { idle = calm.idle; connect = calm.connect };
  flows = flows_quiet terms since past (Gathered secrets packet) counts u.time u.gather (packet ∷ left) l (record u { live = Some l })
      (record u { live = Some (record l { passed_at = at }); given = given; counts = dropped }) h.reached refl none refl gives drops h.flows;
}

and_false : {T : Type 0} (up : Bool) (x y : T) → y ≡ (if up && false then x else y)
and_false true x y = refl
and_false false x y = refl

no_more : (up : Bool) (given : List (List ℕ)) → given ≡ given ++ (if up then [] else [])
no_more true given = sym (append-nil given)
no_more false given = sym (append-nil given)

-- nothing is brought: it has no protocol field, or is too long
next_dropped : {S : Type 0} (terms : Terms) (since past : List Moment) (secrets : SecretsPair) (packet : List ℕ) (left : List (List ℕ)) (counts : UnitCounts) (l : Live) (u : UnitState S) (why : Drop)
    → Using terms since past packet left counts l u → brought_by terms (Gathered secrets packet) (since ++ past) ≡ None → drops_by terms (Gathered secrets packet) (since ++ past) ≡ Some why
    → Uses terms since past secrets left counts (record u { live = Some l; counts = counted (Some why) u.counts })
next_dropped terms since past secrets packet left counts l u why h e drops =
    next_still terms since past secrets packet left counts l u l.passed_at u.given (counted (Some why) u.counts) h
    (rw e refl)
    (ap (λ (i : Option Inner). rejection_by i (views_up_to 16 (since ++ past))) e)
    (h.reached.passed_at ∙ rw e (and_false (is_up_in terms (since ++ past)) (time_in terms (since ++ past)) (passed_in terms (since ++ past))))
    (rw e (no_more (is_up_in terms (since ++ past)) u.given))
    (sym (ap (λ (d : Option Drop). counted d u.counts) drops))
    (record { idle = h.calm.idle; connect = h.calm.connect })

-- what the history says of a packet that is brought, by its protocol
pub record OfPacket (terms : Terms) (past : List Moment) (secrets : SecretsPair) (packet : List ℕ) (i : Inner) (up ipcp ip lcp : Bool) : Type 0 where
  pub asked : asked_in terms (Gathered secrets packet ∷ past) ≡ (if ipcp then to_hear (around terms.allow secrets (most_in terms past)) (packet_in i.information) else [])
  pub passed : passed_in terms (Gathered secrets packet ∷ past) ≡ (if up && ip then time_in terms past else passed_in terms past)
  pub gives : given_by terms (Gathered secrets packet) past ≡ (if up then (if ip then i.information ∷ [] else []) else [])
  pub drops : drops_by terms (Gathered secrets packet) past ≡ (if ip && not up then Some NotOpen else None)
  pub rejects : rejects_by terms (Gathered secrets packet) past ≡ rejection_by (Some i) (views_up_to 16 past)
  pub refused : is_refused i.protocol ≡ not (ipcp || ip || lcp)

of_packet : (terms : Terms) (past : List Moment) (secrets : SecretsPair) (packet : List ℕ) (i : Inner) (up ipcp ip lcp : Bool) → inner_of packet ≡ Some i → nat_lt (most_of_ours terms.mrru) (length i.information) ≡ false
    → is_up_in terms past ≡ up → (i.protocol == IPCP) ≡ ipcp → (i.protocol == IP) ≡ ip → (i.protocol == LCP) ≡ lcp → OfPacket terms past secrets packet i up ipcp ip lcp
of_packet terms past secrets packet i up ipcp ip lcp e fits u f g k =
    let within_is : nat_le (length i.information) (most_of_ours terms.mrru) ≡ true = grind (arith, nat_tests) in
    record {
      asked = rw (e, within_is, f) refl;
      passed = rw (e, within_is, u, g) refl;
      gives = rw (e, within_is, u, g) refl;
      drops = rw (e, fits, u, g) refl;
      rejects = rw (e, within_is) refl;
      refused = rw (f, g, k) refl;
    }

none_refused : (views : List MemberView) (i : Inner) → is_refused i.protocol ≡ false → rejection_by (Some i) views ≡ []
none_refused [] i e = refl
none_refused (v ∷ views) i e = rw e refl

-- neither heard, nor given, nor rejected
next_nothing : {S : Type 0} (terms : Terms) (since past : List Moment) (secrets : SecretsPair) (packet : List ℕ) (left : List (List ℕ)) (counts : UnitCounts) (l : Live) (u : UnitState S) (i : Inner) (up ipcp lcp : Bool)
    → Using terms since past packet left counts l u → (b : OfPacket terms (since ++ past) secrets packet i up ipcp false lcp) → is_refused i.protocol ≡ false
    → (if ipcp then to_hear (around terms.allow secrets (most_in terms (since ++ past))) (packet_in i.information) else []) ≡ []
    → Uses terms since past secrets left counts (record u { live = Some l })
next_nothing terms since past secrets packet left counts l u i up ipcp lcp h b known asks =
    next_still terms since past secrets packet left counts l u l.passed_at u.given u.counts h
    (b.asked ∙ asks)
    (b.rejects ∙ none_refused (views_up_to 16 (since ++ past)) i known)
    (h.reached.passed_at ∙ and_false up (time_in terms (since ++ past)) (passed_in terms (since ++ past)) ∙ sym b.passed)
    (no_more up u.given ∙ ap (λ (x : List (List ℕ)). u.given ++ x) (sym b.gives))
    (sym (ap (λ (d : Option Drop). counted d u.counts) b.drops))
    (record { idle = h.calm.idle; connect = h.calm.connect })

-- a datagram of the peer's
next_given : {S : Type 0} (terms : Terms) (since past : List Moment) (secrets : SecretsPair) (packet : List ℕ) (left : List (List ℕ)) (counts : UnitCounts) (l : Live) (u : UnitState S) (i : Inner) (up lcp : Bool)
    → Using terms since past packet left counts l u → OfPacket terms (since ++ past) secrets packet i up false true lcp
    → Uses terms since past secrets left counts
    (if up then with_pass (record u { live = Some l; given = u.given ++ i.information ∷ [] }) else not_open (record u { live = Some l }))
next_given terms since past secrets packet left counts l u i true lcp h b =
    next_still terms since past secrets packet left counts l u u.time (u.given ++ i.information ∷ []) u.counts h
    b.asked
    (b.rejects ∙ none_refused (views_up_to 16 (since ++ past)) i b.refused)
    (h.reached.time_is ∙ sym b.passed)
    (ap (λ (x : List (List ℕ)). u.given ++ x) (sym b.gives))
    (sym (ap (λ (d : Option Drop). counted d u.counts) b.drops))
    (record { idle = fresh_calm (is_up l) Idle l.wish.idle_s u.time; connect = h.calm.connect })
next_given terms since past secrets packet left counts l u i false lcp h b =
    next_still terms since past secrets packet left counts l u l.passed_at u.given (counted (Some NotOpen) u.counts) h
    b.asked
    (b.rejects ∙ none_refused (views_up_to 16 (since ++ past)) i b.refused)
    (h.reached.passed_at ∙ sym b.passed)
    (sym (append-nil u.given) ∙ ap (λ (x : List (List ℕ)). u.given ++ x) (sym b.gives))
    (sym (ap (λ (d : Option Drop). counted d u.counts) b.drops))
    (record { idle = h.calm.idle; connect = h.calm.connect })

-- a packet that IPCP hears
next_heard : {S : Type 0} (terms : Terms) (since past : List Moment) (secrets : SecretsPair) (packet : List ℕ) (left : List (List ℕ)) (counts : UnitCounts) (l : Live) (u : UnitState S) (i : Inner) (up lcp : Bool) (heard_packet : Option Packet)
    → Using terms since past packet left counts l u → packet_in i.information ≡ heard_packet → OfPacket terms (since ++ past) secrets packet i up true false lcp
    → Uses terms since past secrets left counts (heard secrets heard_packet (record u { live = Some l }))
next_heard terms since past secrets packet left counts l u i up lcp None h f b =
    next_nothing terms since past secrets packet left counts l u i up true lcp h b b.refused (ap (λ (p : Option Packet). to_hear (around terms.allow secrets (most_in terms (since ++ past))) p) f)
next_heard {S = S} terms since past secrets packet left counts l u i up lcp (Some p) h f b =
    let w : UnitState S = record u { live = Some l } in
    let a : Around = around_of secrets l in
    let now : List Moment = since ++ past in
    let m1 : Mid terms (Gathered secrets packet ∷ now) (hears p a ∷ []) left w = record {
      l = l;
      live = refl;
      reached = reached_next terms now secrets packet left u.time u.gather l l.passed_at h.reached h.mid.asked_is (h.reached.passed_at ∙ and_false up (time_in terms now) (passed_in terms now) ∙ sym b.passed);
      asked_is = b.asked ∙ ap (λ (x : Option Packet). to_hear (around terms.allow secrets (most_in terms now)) x) f ∙ ap (λ (x : Around). hears p x ∷ []) (around_then terms now secrets u.time u.gather (packet ∷ left) l h.reached);
      going = h.mid.going;
      ended = h.mid.ended;
      target = h.mid.target;
    } in
    let flows : Flows terms (Gathered secrets packet ∷ since) past [] counts w =
    flows_quiet terms since past (Gathered secrets packet) counts u.time u.gather (packet ∷ left) l w w h.reached refl (b.rejects ∙ none_refused (views_up_to 16 now) i b.refused) refl
    (no_more up u.given ∙ ap (λ (x : List (List ℕ)). u.given ++ x) (sym b.gives)) (sym (ap (λ (d : Option Drop). counted d u.counts) b.drops)) h.flows in
    let d = call_on terms (Gathered secrets packet ∷ since) past counts secrets (Hears p) (hears p a ∷ []) [] left w m1 refl (λ none. absurd (h.came none)) (λ k. refl) flows in
    record {
      more = Calls (call_made secrets u.time (Hears p) l) ∷ Gathered secrets packet ∷ since;
      own_is = refl;
      hears = λ h. (refl, h);
      came = h.came;
      stands = either_of terms (Calls (call_made secrets u.time (Hears p) l) ∷ Gathered secrets packet ∷ now) [] left (called secrets (Hears p) w) d.stands;
      calm = calm_on secrets (Hears p) l w refl h.calm;
      flows = d.flows;
    }
  where
    around_then : (terms : Terms) (past : List Moment) (secrets : SecretsPair) (time : ℕ) (gather : GatherNow) (left : List (List ℕ)) (l : Live) → Reached terms time gather l past left → around terms.allow secrets (most_in terms past) ≡ around_of secrets l
    around_then terms past secrets time gather left l r = ap (λ (a : Allow). around a secrets (most_in terms past)) (sym r.allow) ∙ ap (λ (most : ℕ). around l.allow secrets most) (sym (most_is terms past time gather left l r))

-- a protocol that is rejected
rejection_is : (members : List Member) (i : Inner) → is_refused i.protocol ≡ true → rejection members i.protocol i.information ≡ rejection_by (Some i) (views_of members)
rejection_is [] i e = refl
rejection_is (m ∷ members) i e = rw e refl

none_sent : (members : List Member) (protocol : ℕ) (information : List ℕ) → filter is_sent (rejection members protocol information) ≡ []
none_sent [] protocol information = refl
none_sent (m ∷ members) protocol information = refl

all_rejected : (members : List Member) (protocol : ℕ) (information : List ℕ) → filter is_rejected (rejection members protocol information) ≡ rejection members protocol information
all_rejected [] protocol information = refl
all_rejected (m ∷ members) protocol information = refl

sends_rejection : (terms : Terms) (since past : List Moment) (m : Option MrruPair) (moment : Moment) (waits refused : List Sending) → (m ≡ None → ⊥) → sends_by terms moment (since ++ past) ≡ []
    → refused ≡ rejects_by terms moment (since ++ past) → filter is_sent refused ≡ [] → filter is_rejected refused ≡ refused → SendsSince terms m since past waits → SendsSince terms m (moment ∷ since) past (waits ++ refused)
sends_rejection terms since past None moment waits refused some quiet is no_piece all s = absurd (some refl)
sends_rejection terms since past (Some mrru) moment waits refused some quiet is no_piece all s = rejects_more terms since past mrru moment waits refused quiet is no_piece all s

next_rejected : {S : Type 0} (terms : Terms) (since past : List Moment) (secrets : SecretsPair) (packet : List ℕ) (left : List (List ℕ)) (counts : UnitCounts) (l : Live) (u : UnitState S) (i : Inner) (up : Bool)
    → Using terms since past packet left counts l u → OfPacket terms (since ++ past) secrets packet i up false false false
    → Uses terms since past secrets left counts (rejected i.protocol i.information (record u { live = Some l }))
next_rejected {S = S} terms since past secrets packet left counts l u i up h b =
    let now : List Moment = since ++ past in
    let is : rejection l.members i.protocol i.information ≡ rejects_by terms (Gathered secrets packet) now =
    rejection_is l.members i b.refused ∙ ap (λ (views : List MemberView). rejection_by (Some i) views) (reached_sends terms now u.time u.gather (packet ∷ left) l h.reached).views ∙ sym b.rejects in
    record {
      more = Gathered secrets packet ∷ since;
      own_is = refl;
      hears = λ h. (refl, h);
      came = h.came;
      stands = inl (record {
        l = l;
        live = refl;
        reached = reached_next terms now secrets packet left u.time u.gather l l.passed_at h.reached h.mid.asked_is (h.reached.passed_at ∙ and_false up (time_in terms now) (passed_in terms now) ∙ sym b.passed);
        asked_is = b.asked;
        going = h.mid.going;
        ended = h.mid.ended;
        target = h.mid.target;
      });
      calm = record { idle = h.calm.idle; connect = h.calm.connect };
      flows = record {
        sends = sends_rejection terms since past terms.mrru (Gathered secrets packet) u.sent (rejection l.members i.protocol i.information) (is_multilink terms.mrru u.gather packet now left h.reached.gathers) refl is
            (none_sent l.members i.protocol i.information) (all_rejected l.members i.protocol i.information) h.flows.sends;
        gives = ap (λ (x : List (List ℕ)). given_in terms past ++ x) (no_more up u.given ∙ ap (λ (x : List (List ℕ)). u.given ++ x) (sym b.gives))
            ∙ sym (append_assoc (given_in terms past) u.given (given_by terms (Gathered secrets packet) now)) ∙ ap (λ (x : List (List ℕ)). x ++ given_by terms (Gathered secrets packet) now) h.flows.gives;
        counts_are = h.flows.counts_are ∙ ap (λ (d : Option Drop). counted d (counts_in terms since past counts)) (sym b.drops);
      };
    }

other_than : (protocol one other : ℕ) → (protocol == one) ≡ true → (one == other) ≡ false → (protocol == other) ≡ false
other_than protocol one other e f = grind (arith, nat_tests)

-- by what it is
next_some : {S : Type 0} (terms : Terms) (since past : List Moment) (secrets : SecretsPair) (packet : List ℕ) (left : List (List ℕ)) (counts : UnitCounts) (l : Live) (u : UnitState S) (i : Inner) (ipcp ip lcp : Bool)
    → Using terms since past packet left counts l u → inner_of packet ≡ Some i → nat_lt (most_of_ours terms.mrru) (length i.information) ≡ false
    → (i.protocol == IPCP) ≡ ipcp → (i.protocol == IP) ≡ ip → (i.protocol == LCP) ≡ lcp
    → let w = record u { live = Some l } in
    Uses terms since past secrets left counts
    (if ipcp || ip then (if ipcp then heard secrets (packet_in i.information) w else (if ip then gave i.information w else w)) else (if lcp then w else rejected i.protocol i.information w))
next_some terms since past secrets packet left counts l u i true ip lcp h e fits f g k =
    next_heard terms since past secrets packet left counts l u i (is_up_in terms (since ++ past)) lcp (packet_in i.information) h refl
    (of_packet terms (since ++ past) secrets packet i (is_up_in terms (since ++ past)) true false lcp e fits refl f (other_than i.protocol IPCP IP f refl) k)
next_some terms since past secrets packet left counts l u i false true lcp h e fits f g k =
    next_given terms since past secrets packet left counts l u i (is_up l) lcp h
    (of_packet terms (since ++ past) secrets packet i (is_up l) false true lcp e fits (sym (up_is terms l.ipcp (calls_in (since ++ past)) h.reached.ipcp)) f g k)
next_some terms since past secrets packet left counts l u i false false true h e fits f g k =
    let b : OfPacket terms (since ++ past) secrets packet i (is_up_in terms (since ++ past)) false false true = of_packet terms (since ++ past) secrets packet i (is_up_in terms (since ++ past)) false false true e fits refl f g k in
    next_nothing terms since past secrets packet left counts l u i (is_up_in terms (since ++ past)) false true h b b.refused refl
next_some terms since past secrets packet left counts l u i false false false h e fits f g k =
    next_rejected terms since past secrets packet left counts l u i (is_up_in terms (since ++ past)) h
    (of_packet terms (since ++ past) secrets packet i (is_up_in terms (since ++ past)) false false false e fits refl f g k)

next_by : {S : Type 0} (terms : Terms) (since past : List Moment) (secrets : SecretsPair) (packet : List ℕ) (left : List (List ℕ)) (counts : UnitCounts) (l : Live) (u : UnitState S) (found : Option Inner)
    → Using terms since past packet left counts l u → inner_of packet ≡ found → Uses terms since past secrets left counts (used_inner secrets terms.mrru found (record u { live = Some l }))
next_by terms since past secrets packet left counts l u None h e =
    next_dropped terms since past secrets packet left counts l u BadInner h (rw e refl) (rw e refl)
next_by {S = S} terms since past secrets packet left counts l u (Some i) h e = by_length (nat_lt (most_of_ours terms.mrru) (length i.information)) refl
  where
    w : UnitState S
    w = record u { live = Some l }

    by_length : (big : Bool) → nat_lt (most_of_ours terms.mrru) (length i.information) ≡ big
        → Uses terms since past secrets left counts
        (if big then too_big w else if i.protocol == IPCP || i.protocol == IP then brought secrets i.protocol i.information w else if i.protocol == LCP then w else rejected i.protocol i.information w)
    by_length true f =
        let beyond : nat_le (length i.information) (most_of_ours terms.mrru) ≡ false = grind (arith, nat_tests) in
        next_dropped terms since past secrets packet left counts l u TooBig h (rw (e, beyond) refl) (rw (e, f) refl)
    by_length false f = next_some terms since past secrets packet left counts l u i (i.protocol == IPCP) (i.protocol == IP) (i.protocol == LCP) h e f refl refl refl

pub use_one : {S : Type 0} (terms : Terms) (since past : List Moment) (secrets : SecretsPair) (packet : List ℕ) (left : List (List ℕ)) (counts : UnitCounts) (u : UnitState S)
    → Mid terms (since ++ past) [] (packet ∷ left) u → (entered_in (since ++ past) ≡ None → ⊥) → Calm u → Flows terms since past [] counts u
    → Uses terms since past secrets left counts (used secrets packet u)
use_one {S = S} terms since past secrets packet left counts u m came calm flows =
    let l : Live = m.l in
    let same : u ≡ record u { live = Some l } = ap (λ (o : Option Live). record u { live = o }) m.live in
    let h : Using terms since past packet left counts l u = record {
      mid = record { l = l; live = refl; reached = m.reached; asked_is = m.asked_is; going = m.going; ended = m.ended; target = m.target };
      reached = m.reached;
      came = came;
      calm = subst (λ (v : UnitState S). Calm v) same calm;
      flows = subst (λ (v : UnitState S). Flows terms since past [] counts v) same flows;
    } in
    let is : used secrets packet u ≡ used_inner secrets terms.mrru (inner_of packet) (record u { live = Some l }) =
    ap (λ (v : UnitState S). used secrets packet v) same ∙ ap (λ (x : Option MrruPair). used_inner secrets x (inner_of packet) (record u { live = Some l })) m.reached.mrru in
    subst (λ (v : UnitState S). Uses terms since past secrets left counts v) (sym is) (next_by terms since past secrets packet left counts l u (inner_of packet) h refl)

-- ALL

-- where none lives, each is dropped
closed_none : {S : Type 0} (found : Option Ending) (u : UnitState S) → u.live ≡ None → closed_if found u ≡ u
closed_none None u e = refl
closed_none (Some end) u e = ap (λ (o : Option Live). closed_of o end u) e

drops_all : {S : Type 0} (secrets : SecretsPair) (packets : List (List ℕ)) (u : UnitState S) → u.live ≡ None → used_all secrets packets u ≡ record u { counts = left_out packets u.counts }
drops_all secrets [] u e = refl
drops_all {S = S} secrets (packet ∷ packets) u e =
    let one : looked (used secrets packet u) ≡ not_open u =
    ap (λ (o : Option Live). looked (used_of o secrets packet u)) e ∙ closed_none (crowded_end u.scripts.log.past) (not_open u) e in
    ap (λ (v : UnitState S). used_all secrets packets v) one ∙ drops_all secrets packets (not_open u) e

ends_as : {S : Type 0} (terms : Terms) (past : List Moment) (left : List (List ℕ)) (u : UnitState S) (counts : UnitCounts) (e : Option BundleEnd) → LivesOrEnds terms past left u None e → LivesOrEnds terms past left (record u { counts = counts }) None e
ends_as terms past left u counts None h = h
ends_as terms past left u counts (Some e) h = record {
  cause = h.cause;
  elapsed = h.elapsed;
  ipcp = h.ipcp;
  before = h.before;
  behind = h.behind;
  order = h.order;
  done = h.done;
  called = h.called;
  gathers = h.gathers;
  place = h.place;
  last = h.last;
  reason = h.reason;
  told = h.told;
}

-- after one of them: those that are left are used, or dropped
then_by : {S : Type 0} (terms : Terms) (past : List Moment) (secrets : SecretsPair) (packets : List (List ℕ)) (own more : List Moment) (counts : UnitCounts) (w : UnitState S) → own_in more ≡ own → HearsWith secrets more → (entered_in (more ++ past) ≡ None → ⊥) → Calm w → Flows terms more past [] counts w
    → Mid terms (more ++ past) [] packets w ⊎ Dead terms (more ++ past) packets w → (Mid terms (more ++ past) [] packets w → Does terms past secrets own counts (used_all secrets packets w)) → Does terms past secrets own counts (used_all secrets packets w)
then_by terms past secrets packets own more counts w is told came calm flows (inl m) again = again m
then_by {S = S} terms past secrets packets own more counts w is told came calm flows (inr dead) again =
    subst (λ (x : UnitState S). Does terms past secrets own counts x) (sym (drops_all secrets packets w dead.live))
    (record {
      since = more;
      left = packets;
      own_is = is;
      hears = told;
      stands = inr (record { live = dead.live; how = ends_as terms (more ++ past) packets w (left_out packets w.counts) w.ended dead.how });
      calm = record { idle = calm.idle; connect = calm.connect };
      flows = record { sends = flows.sends; gives = flows.gives; counts_are = ap (λ (c : UnitCounts). left_out packets c) flows.counts_are };
    })

pub uses_all : {S : Type 0} (terms : Terms) (past : List Moment) (secrets : SecretsPair) (packets : List (List ℕ)) (own since : List Moment) (counts : UnitCounts) (u : UnitState S) → own_in since ≡ own → HearsWith secrets since
    → Mid terms (since ++ past) [] packets u → (entered_in (since ++ past) ≡ None → ⊥) → Calm u → Flows terms since past [] counts u
    → Does terms past secrets own counts (used_all secrets packets u)
uses_all terms past secrets [] own since counts u is told m came calm flows = record { since = since; left = []; own_is = is; hears = told; stands = inl (m, refl); calm = calm; flows = flows }
uses_all {S = S} terms past secrets (packet ∷ packets) own since counts u is told m came calm flows =
    let one = use_one terms since past secrets packet packets counts u m came calm flows in
    let v : UnitState S = used secrets packet u in
    let w : UnitState S = looked v in
    let calm1 : Calm w = looked_calm v one.calm in
    let flows1 : Flows terms one.more past [] counts w = flows_keep terms one.more past [] counts v w (keeps_if (crowded_end v.scripts.log.past) v) one.flows in
    then_by terms past secrets packets own one.more counts w (one.own_is ∙ is) (one.hears told) one.came calm1 flows1 (looked_either terms (one.more ++ past) packets v one.stands)
    (λ m1. uses_all terms past secrets packets own one.more counts w (one.own_is ∙ is) (one.hears told) m1 one.came calm1 flows1)
