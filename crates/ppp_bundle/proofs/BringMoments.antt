-- A step at which a link brings a frame.
use Rattle.std.proofs.Common.{subst₂, ◌≡◌, inl, ℕ, Bool, true, false, Option, None, Some, is_some, List, [], ◌∷◌, ◌++◌, refl, ap, ap₂, sym, subst, ◌∙◌, arith, append-nil, inr, length, ◌<◌, ◌≤◌, ◌⊎◌}
use Rattle.std.proofs.lemmas.Bool.{cases_lt}
use Rattle.std.proofs.lemmas.Bool.Decides.{nat_tests}
use Rattle.std.specs.Prelude.{◌==◌, ◌&&◌, not, if◌then◌else◌, nat_le}
use Rattle.ppp_base.specs.declared.allow.Allow.{Allow}
use Rattle.ppp_base.specs.Mrru.{MrruPair}
use Rattle.ppp_base.specs.declared.posts.CloseCause.TheVariants.{Idle}
use Rattle.ppp_base.specs.declared.protocol.TheConstants.{IP, IPCP, MULTILINK}
use Rattle.ppp_control.specs.Rules.{hears}
use Rattle.ppp_ipcp.specs.Around.{Around, around}
use Rattle.ppp_mp.specs.StandsFor.{GatherNow, StandsFor as GatherStandsFor, with_looks}
use Rattle.ppp_packet.specs.declared.packet.Packet.{Packet}
use Rattle.ppp_packet.specs.PacketOf.{packet_in}
use Rattle.ppp_secrets.specs.declared.secrets.SecretsPair.{SecretsPair}
use Rattle.ppp_unit_parts.specs.declared.live.IpCall.TheVariants.{Hears}
use Rattle.ppp_unit_parts.specs.declared.live.Live.{Live}
use Rattle.ppp_unit_parts.specs.declared.member.Member.{Member}
use Rattle.ppp_unit_parts.specs.declared.outbox.UnitCounts.{UnitCounts}
use Rattle.ppp_bundle.specs.Frames.{brought, gave, heard, not_open, stranger, used_all, with_pass}
use Rattle.ppp_bundle.specs.History.{Moment, Brings, Calls, Drop, Terms, NotOpen, Stranger, asked_in, calls_in, counted, drops_by, entered_in, given_by, is_member_in, is_up_in, most_in, passed_in, time_in, to_hear, has_finished_after, entries_in, gathered_in, piece_in}
use Rattle.ppp_bundle.specs.IpCalls.{called}
use Rattle.ppp_unit_parts.specs.Calls.{around_of}
use Rattle.ppp_bundle.specs.Lives.{GathersAll, HasMember, Reached, mru_of}
use Rattle.ppp_unit_parts.specs.Member.{has_link}
use Rattle.ppp_bundle.specs.State.{UnitState}
use Rattle.ppp_unit_parts.specs.Live.{is_up}
use Rattle.ppp_bundle.specs.UnitPart.{framed, if_multilink, piece_of}
use Rattle.ppp_bundle.proofs.CallMoments.{call_made, up_is, reached_sends}
use Rattle.ppp_bundle.proofs.EventMoments.{call_on, calm_on, either_of, Begins}
use Rattle.ppp_bundle.proofs.MidMoments.{Calm, Flows, Mid, fresh_calm, flows_quiet, flows_start}
use Rattle.ppp_bundle.proofs.PassMoments.{most_is}
use Rattle.ppp_bundle.proofs.StepMoments.{Does, does_of, somebody_came}
use Rattle.ppp_mp.specs.Delivered.{Gathering, Entry, nothing}
use Rattle.ppp_bundle.specs.Gathers.{Gathered, Gathers, Same, TakesPiece}
use Rattle.ppp_bundle.proofs.PieceMoments.{cuts_then}
use Rattle.ppp_bundle.proofs.UseMoments.{uses_all}
use Rattle.ppp_base.specs.declared.hook_target.HookTarget.TheVariants.{Unit as OfUnit}
use Rattle.ppp_bundle.proofs.ViewMoments.{has_is}
use Rattle.ppp_mp.specs.Header.{long_octets, long_space}

-- WHAT THE GATHERER TAKES

brings_as : (m : Option MrruPair) (b : Bool) (gather : GatherNow) (secrets : SecretsPair) (link protocol : ℕ) (information : List ℕ) (past : List Moment) (left : List (List ℕ)) (s : Gathering) (mrru : MrruPair)
    → (is_member_in link past && protocol == MULTILINK && nat_le long_octets (length information)) ≡ b
    → GatherStandsFor long_space gather (piece_in b link information ++ entries_in past) s → s.given ≡ gathered_in past ++ left → gather.mrru ≡ mrru.ours
    → GathersAll (Some mrru) gather (Brings secrets link protocol information ∷ past) left
brings_as m b gather secrets link protocol information past left s mrru e stands given ours =
    (s, subst (λ (x : Bool). GatherStandsFor long_space gather (piece_in x link information ++ entries_in past) s) (sym e) stands, given, ours)

same_gather : (mrru : MrruPair) (old : GatherNow) (g : Gathered) (secrets : SecretsPair) (link protocol : ℕ) (information : List ℕ) (past : List Moment) → (is_member_in link past && protocol == MULTILINK && nat_le long_octets (length information)) ≡ false
    → Same old g → GathersAll (Some mrru) old past [] → GathersAll (Some mrru) g.gather (Brings secrets link protocol information ∷ past) g.packets
same_gather mrru old g secrets link protocol information past e same h =
    subst₂ (λ (n : GatherNow) (ps : List (List ℕ)). GathersAll (Some mrru) n (Brings secrets link protocol information ∷ past) ps) (sym same.gather) (sym same.none)
    (brings_as (Some mrru) false old secrets link protocol information past [] h.0 mrru e h.1 h.2 h.3)

looked_at : (looks : ℕ) (old : GatherNow) (past : List Entry) (s : Gathering) → GatherStandsFor long_space old past s → GatherStandsFor long_space (with_looks looks old) past s
looked_at looks old past s h = record {
  delivered = h.delivered;
  keeps = record { least = h.keeps.least; raised = h.keeps.raised; waiting = h.keeps.waiting; rising = h.keeps.rising; overs = h.keeps.overs; counts = h.keeps.counts };
}

piece_gathered : (mrru : MrruPair) (old : GatherNow) (g : Gathered) (secrets : SecretsPair) (link protocol : ℕ) (information : List ℕ) (past : List Moment) → is_member_in link past ≡ true → (protocol == MULTILINK) ≡ true
    → TakesPiece link information old g → GathersAll (Some mrru) old past [] → GathersAll (Some mrru) g.gather (Brings secrets link protocol information ∷ past) g.packets
piece_gathered mrru old g secrets link protocol information past e f asked h = by_case (cases_lt (length information) long_octets)
  where
    by_case : (length information < long_octets) ⊎ (long_octets ≤ length information) → GathersAll (Some mrru) g.gather (Brings secrets link protocol information ∷ past) g.packets
    by_case (inl short) =
        let no : nat_le long_octets (length information) ≡ false = grind (arith, nat_tests) in
        let refused = asked.short short in
        subst₂ (λ (n : GatherNow) (ps : List (List ℕ)). GathersAll (Some mrru) n (Brings secrets link protocol information ∷ past) ps) (sym refused.0) (sym refused.1)
        (brings_as (Some mrru) false (with_looks 0 old) secrets link protocol information past [] h.0 mrru (rw (e, f, no) refl) (looked_at 0 old (entries_in past) h.0 h.1) h.2 h.3)
    by_case (inr long) =
        let is : nat_le long_octets (length information) ≡ true = grind (arith, nat_tests) in
        let added = asked.stands (entries_in past) h.0 h.1 long in
        brings_as (Some mrru) true g.gather secrets link protocol information past g.packets added.0 mrru (rw (e, f, is) refl) added.2
        (added.3 ∙ ap (λ (x : List (List ℕ)). x ++ g.packets) (h.2 ∙ append-nil (gathered_in past))) (asked.ours ∙ h.3)

pub gathers_brings : (m other : Option MrruPair) (there piece : Bool) (secrets : SecretsPair) (link protocol : ℕ) (information : List ℕ) (past : List Moment) (old : GatherNow) (g : Gathered) → other ≡ m → is_member_in link past ≡ there → (protocol == MULTILINK) ≡ piece
    → Gathers (if_multilink other (piece_of there piece link information)) old g → GathersAll m old past [] → GathersAll m g.gather (Brings secrets link protocol information ∷ past) g.packets
gathers_brings None None there piece secrets link protocol information past old g e f k asked h = (h.0, asked.none)
gathers_brings None (Some x) there piece secrets link protocol information past old g e f k asked h = absurd (let q : Some x ≡ None = e in cc)
gathers_brings (Some mrru) None there piece secrets link protocol information past old g e f k asked h = absurd (let q : None ≡ Some mrru = e in cc)
gathers_brings (Some mrru) (Some x) true true secrets link protocol information past old g e f k asked h = piece_gathered mrru old g secrets link protocol information past f k asked h
gathers_brings (Some mrru) (Some x) true false secrets link protocol information past old g e f k asked h = same_gather mrru old g secrets link protocol information past (rw (f, k) refl) asked h
gathers_brings (Some mrru) (Some x) false true secrets link protocol information past old g e f k asked h = same_gather mrru old g secrets link protocol information past (rw f refl) asked h
gathers_brings (Some mrru) (Some x) false false secrets link protocol information past old g e f k asked h = same_gather mrru old g secrets link protocol information past (rw f refl) asked h

-- but for a member's piece nothing is gathered
pub no_piece : (other : Option MrruPair) (there piece : Bool) (link : ℕ) (information : List ℕ) (old : GatherNow) (g : Gathered) → (there && piece) ≡ false → Gathers (if_multilink other (piece_of there piece link information)) old g → g.packets ≡ []
no_piece None there piece link information old g e asked = asked.none
no_piece (Some x) true true link information old g e asked = absurd (let q : true ≡ false = e in cc)
no_piece (Some x) true false link information old g e asked = asked.none
no_piece (Some x) false true link information old g e asked = asked.none
no_piece (Some x) false false link information old g e asked = asked.none

-- A FRAME

some_brings : (m : Option MrruPair) (members : List Member) (secrets : SecretsPair) (link protocol : ℕ) (information : List ℕ) (past : List Moment) → HasMember m members past
    → HasMember m members (Brings secrets link protocol information ∷ past)
some_brings None members secrets link protocol information past h = h
some_brings (Some mrru) members secrets link protocol information past h = h

-- a unit of which a link brings a frame, and what is left of what was gathered
pub record Brought {S : Type 0} (terms : Terms) (past : List Moment) (secrets : SecretsPair) (link protocol : ℕ) (information : List ℕ) (left : List (List ℕ)) (old : GatherNow) (l : Live) (u : UnitState S) : Type 0 where
  pub reached : Reached terms u.time old l past []
  pub gathers : GathersAll terms.mrru u.gather (Brings secrets link protocol information ∷ past) left
  pub done : asked_in terms past ≡ []
  pub going : has_finished_after (calls_in past) ≡ false
  pub ended : u.ended ≡ None
  pub target : u.scripts.machine.target ≡ OfUnit u.unit

pub reached_brings : {S : Type 0} (terms : Terms) (past : List Moment) (secrets : SecretsPair) (link protocol : ℕ) (information : List ℕ) (left : List (List ℕ)) (old : GatherNow) (l : Live) (u : UnitState S) (at : ℕ)
    → Brought terms past secrets link protocol information left old l u → at ≡ passed_in terms (Brings secrets link protocol information ∷ past)
    → Reached terms u.time u.gather (record l { passed_at = at }) (Brings secrets link protocol information ∷ past) left
reached_brings terms past secrets link protocol information left old l u at b e =
    let r = b.reached in
    record {
      order = (b.done, r.order);
      ipcp = r.ipcp;
      gathers = b.gathers;
      cuts = cuts_then terms past terms.mrru (Brings secrets link protocol information) l (reached_sends terms past u.time old [] l r) r.cuts;
      members = r.members;
      in_order = r.in_order;
      some = some_brings terms.mrru l.members secrets link protocol information past r.some;
      initial = r.initial;
      time_is = r.time_is;
      wish = r.wish;
      allow = r.allow;
      mrru = r.mrru;
      was_open = r.was_open;
      by_peer = r.by_peer;
      opened_at = r.opened_at;
      passed_at = e;
    }

pub flows_brings : {S : Type 0} (terms : Terms) (past : List Moment) (secrets : SecretsPair) (link protocol : ℕ) (information : List ℕ) (left : List (List ℕ)) (old : GatherNow) (l : Live) (u v : UnitState S)
    → Brought terms past secrets link protocol information left old l u → u.sent ≡ [] → u.given ≡ [] → v.sent ≡ u.sent → v.given ≡ u.given ++ given_by terms (Brings secrets link protocol information) past
    → v.counts ≡ counted (drops_by terms (Brings secrets link protocol information) past) u.counts → Flows terms (Brings secrets link protocol information ∷ []) past [] u.counts v
flows_brings terms past secrets link protocol information left old l u v b none nothing sent given drops =
    flows_quiet terms [] past (Brings secrets link protocol information) u.counts u.time old [] l u v b.reached refl refl sent given drops (flows_start terms past u.time old [] l u b.reached none nothing)

-- A frame at which IPCP isn't called.
brings_still : {S : Type 0} (terms : Terms) (past : List Moment) (secrets : SecretsPair) (link protocol : ℕ) (information : List ℕ) (old : GatherNow) (u : UnitState S) (l : Live) (at : ℕ) (given : List (List ℕ)) (counts : UnitCounts)
    → Brought terms past secrets link protocol information [] old l u → u.sent ≡ [] → u.given ≡ []
    → asked_in terms (Brings secrets link protocol information ∷ past) ≡ [] → at ≡ passed_in terms (Brings secrets link protocol information ∷ past)
    → given ≡ u.given ++ given_by terms (Brings secrets link protocol information) past → counts ≡ counted (drops_by terms (Brings secrets link protocol information) past) u.counts
    → Calm (record u { live = Some (record l { passed_at = at }) })
    → Does terms past secrets (Brings secrets link protocol information ∷ []) u.counts (record u { live = Some (record l { passed_at = at }); given = given; counts = counts })
brings_still {S = S} terms past secrets link protocol information old u l at given counts b sent nothing asked is gives drops calm =
    let v : UnitState S = record u { live = Some (record l { passed_at = at }); given = given; counts = counts } in
    does_of terms (Brings secrets link protocol information ∷ []) past secrets (Brings secrets link protocol information ∷ []) u.counts v refl tt
    (inl (record {
      l = record l { passed_at = at };
      live = refl;
      reached = reached_brings terms past secrets link protocol information [] old l u at b is;
      asked_is = asked;
      going = b.going;
      ended = b.ended;
      target = b.target;
    }))
    (record { idle = calm.idle; connect = calm.connect })
    (flows_brings terms past secrets link protocol information [] old l u v b sent nothing refl gives drops)

pub and_false : {T : Type 0} (up : Bool) (x y : T) → y ≡ (if up && false then x else y)
and_false true x y = refl
and_false false x y = refl

pub no_more : (up : Bool) (given : List (List ℕ)) → given ≡ given ++ (if up then [] else [])
no_more true given = sym (append-nil given)
no_more false given = sym (append-nil given)

-- what the history says of a frame of a member, by its protocol
abbrev pub heard_with : Terms → SecretsPair → List Moment → Around
heard_with terms secrets past = around terms.allow secrets (most_in terms past)

pub record OfMember (terms : Terms) (past : List Moment) (secrets : SecretsPair) (link protocol : ℕ) (information : List ℕ) (up ipcp ip : Bool) : Type 0 where
  pub asked : asked_in terms (Brings secrets link protocol information ∷ past) ≡ (if ipcp then to_hear (heard_with terms secrets past) (packet_in information) else [])
  pub passed : passed_in terms (Brings secrets link protocol information ∷ past) ≡ (if up && ip then time_in terms past else passed_in terms past)
  pub gives : given_by terms (Brings secrets link protocol information) past ≡ (if up then (if ip then information ∷ [] else []) else [])
  pub drops : drops_by terms (Brings secrets link protocol information) past ≡ (if ip && not up then Some NotOpen else None)

of_member : (terms : Terms) (past : List Moment) (secrets : SecretsPair) (link protocol : ℕ) (information : List ℕ) (up ipcp ip : Bool)
    → is_member_in link past ≡ true → is_up_in terms past ≡ up → (protocol == IPCP) ≡ ipcp → (protocol == IP) ≡ ip → OfMember terms past secrets link protocol information up ipcp ip
of_member terms past secrets link protocol information up ipcp ip e u f g = record {
  asked = rw (e, f) refl;
  passed = rw (e, u, g) refl;
  gives = rw (e, u, g) refl;
  drops = rw (e, u, g) refl;
}

-- no member: what it brings is counted
does_stranger : {S : Type 0} (terms : Terms) (past : List Moment) (secrets : SecretsPair) (link protocol : ℕ) (information : List ℕ) (old : GatherNow) (u : UnitState S) (l : Live)
    → Brought terms past secrets link protocol information [] old l u → Calm (record u { live = Some l }) → u.sent ≡ [] → u.given ≡ []
    → is_member_in link past ≡ false → Does terms past secrets (Brings secrets link protocol information ∷ []) u.counts (stranger (record u { live = Some l }))
does_stranger terms past secrets link protocol information old u l b calm sent given e =
    brings_still terms past secrets link protocol information old u l l.passed_at u.given (counted (Some Stranger) u.counts) b sent given
    (rw e refl)
    (b.reached.passed_at ∙ rw e (and_false (is_up_in terms past) (time_in terms past) (passed_in terms past)))
    (rw e (no_more (is_up_in terms past) u.given))
    (rw e refl)
    (record { idle = calm.idle; connect = calm.connect })

-- a frame of a member that neither IPCP hears nor is given
does_nothing : {S : Type 0} (terms : Terms) (past : List Moment) (secrets : SecretsPair) (link protocol : ℕ) (information : List ℕ) (old : GatherNow) (u : UnitState S) (l : Live) (up ipcp : Bool)
    → Brought terms past secrets link protocol information [] old l u → Calm (record u { live = Some l }) → u.sent ≡ [] → u.given ≡ []
    → (b : OfMember terms past secrets link protocol information up ipcp false) → (if ipcp then to_hear (heard_with terms secrets past) (packet_in information) else []) ≡ []
    → Does terms past secrets (Brings secrets link protocol information ∷ []) u.counts (record u { live = Some l })
does_nothing terms past secrets link protocol information old u l up ipcp here calm sent given b asks =
    brings_still terms past secrets link protocol information old u l l.passed_at u.given u.counts here sent given
    (b.asked ∙ asks)
    (here.reached.passed_at ∙ and_false up (time_in terms past) (passed_in terms past) ∙ sym b.passed)
    (no_more up u.given ∙ ap (λ (x : List (List ℕ)). u.given ++ x) (sym b.gives))
    (sym (ap (λ (d : Option Drop). counted d u.counts) b.drops))
    (record { idle = calm.idle; connect = calm.connect })

-- a datagram of the peer's
does_give : {S : Type 0} (terms : Terms) (past : List Moment) (secrets : SecretsPair) (link protocol : ℕ) (information : List ℕ) (old : GatherNow) (u : UnitState S) (l : Live) (up : Bool)
    → Brought terms past secrets link protocol information [] old l u → Calm (record u { live = Some l }) → u.sent ≡ [] → u.given ≡ []
    → OfMember terms past secrets link protocol information up false true
    → Does terms past secrets (Brings secrets link protocol information ∷ []) u.counts
    (if up then with_pass (record u { live = Some l; given = u.given ++ information ∷ [] }) else not_open (record u { live = Some l }))
does_give terms past secrets link protocol information old u l true here calm sent given b =
    brings_still terms past secrets link protocol information old u l u.time (u.given ++ information ∷ []) u.counts here sent given
    b.asked
    (here.reached.time_is ∙ sym b.passed)
    (ap (λ (x : List (List ℕ)). u.given ++ x) (sym b.gives))
    (sym (ap (λ (d : Option Drop). counted d u.counts) b.drops))
    (record { idle = fresh_calm (is_up l) Idle l.wish.idle_s u.time; connect = calm.connect })
does_give terms past secrets link protocol information old u l false here calm sent given b =
    brings_still terms past secrets link protocol information old u l l.passed_at u.given (counted (Some NotOpen) u.counts) here sent given
    b.asked
    (here.reached.passed_at ∙ sym b.passed)
    (sym (append-nil u.given) ∙ ap (λ (x : List (List ℕ)). u.given ++ x) (sym b.gives))
    (sym (ap (λ (d : Option Drop). counted d u.counts) b.drops))
    (record { idle = calm.idle; connect = calm.connect })

-- a packet that IPCP hears
pub member_came : (terms : Terms) (past : List Moment) (time : ℕ) (gather : GatherNow) (left : List (List ℕ)) (l : Live) (link : ℕ) → Reached terms time gather l past left → is_member_in link past ≡ true → entered_in past ≡ None → ⊥
member_came terms past time gather left l link r there none = by_members l.members refl
  where
    by_members : (members : List Member) → l.members ≡ members → ⊥
    by_members [] e = absurd (let f : false ≡ true = ap is_some (sym (ap (λ (ms : List Member). mru_of link ms) e) ∙ r.members link) ∙ there in cc)
    by_members (m ∷ members) e = somebody_came terms.mrru m members past (subst (λ (ms : List Member). HasMember terms.mrru ms past) e r.some) none

pub around_is : (terms : Terms) (past : List Moment) (secrets : SecretsPair) (time : ℕ) (gather : GatherNow) (left : List (List ℕ)) (l : Live) → Reached terms time gather l past left → heard_with terms secrets past ≡ around_of secrets l
around_is terms past secrets time gather left l r = ap₂ (λ (a : Allow) (most : ℕ). around a secrets most) (sym r.allow) (sym (most_is terms past time gather left l r))

does_hear : {S : Type 0} (terms : Terms) (past : List Moment) (secrets : SecretsPair) (link protocol : ℕ) (information : List ℕ) (old : GatherNow) (u : UnitState S) (l : Live) (up : Bool) (heard_packet : Option Packet)
    → Brought terms past secrets link protocol information [] old l u → Calm (record u { live = Some l }) → u.sent ≡ [] → u.given ≡ []
    → is_member_in link past ≡ true → packet_in information ≡ heard_packet → OfMember terms past secrets link protocol information up true false
    → Does terms past secrets (Brings secrets link protocol information ∷ []) u.counts (heard secrets heard_packet (record u { live = Some l }))
does_hear terms past secrets link protocol information old u l up None here calm sent given e f b =
    does_nothing terms past secrets link protocol information old u l up true here calm sent given b (ap (λ (p : Option Packet). to_hear (heard_with terms secrets past) p) f)
does_hear {S = S} terms past secrets link protocol information old u l up (Some p) here calm sent given e f b =
    let w : UnitState S = record u { live = Some l } in
    let a : Around = around_of secrets l in
    let m1 : Mid terms (Brings secrets link protocol information ∷ past) (hears p a ∷ []) [] w = record {
      l = l;
      live = refl;
      reached = reached_brings terms past secrets link protocol information [] old l u l.passed_at here (here.reached.passed_at ∙ and_false up (time_in terms past) (passed_in terms past) ∙ sym b.passed);
      asked_is = b.asked ∙ ap (λ (x : Option Packet). to_hear (heard_with terms secrets past) x) f ∙ ap (λ (x : Around). hears p x ∷ []) (around_is terms past secrets u.time old [] l here.reached);
      going = here.going;
      ended = here.ended;
      target = here.target;
    } in
    let flows : Flows terms (Brings secrets link protocol information ∷ []) past [] u.counts w = flows_brings terms past secrets link protocol information [] old l u w here sent given refl
    (no_more up u.given ∙ ap (λ (x : List (List ℕ)). u.given ++ x) (sym b.gives)) (sym (ap (λ (d : Option Drop). counted d u.counts) b.drops)) in
    let d = call_on terms (Brings secrets link protocol information ∷ []) past u.counts secrets (Hears p) (hears p a ∷ []) [] [] w m1 refl
    (λ none. absurd (member_came terms past u.time old [] l link here.reached e none))
    (λ h. refl) flows in
    let since : List Moment = Calls (call_made secrets u.time (Hears p) l) ∷ Brings secrets link protocol information ∷ [] in
    does_of terms since past secrets (Brings secrets link protocol information ∷ []) u.counts (called secrets (Hears p) w) refl tt
    (either_of terms (since ++ past) [] [] (called secrets (Hears p) w) d.stands) (calm_on secrets (Hears p) l w refl calm) d.flows

other_than : (protocol one other : ℕ) → (protocol == one) ≡ true → (one == other) ≡ false → (protocol == other) ≡ false
other_than protocol one other e f = grind (arith, nat_tests)

-- by the protocol, where it isn't that of pieces
does_whole : {S : Type 0} (terms : Terms) (past : List Moment) (secrets : SecretsPair) (link protocol : ℕ) (information : List ℕ) (old : GatherNow) (u : UnitState S) (l : Live) (ipcp ip : Bool)
    → Brought terms past secrets link protocol information [] old l u → Calm (record u { live = Some l }) → u.sent ≡ [] → u.given ≡ []
    → is_member_in link past ≡ true → (protocol == IPCP) ≡ ipcp → (protocol == IP) ≡ ip
    → Does terms past secrets (Brings secrets link protocol information ∷ []) u.counts
    (if ipcp then heard secrets (packet_in information) (record u { live = Some l }) else (if ip then gave information (record u { live = Some l }) else record u { live = Some l }))
does_whole terms past secrets link protocol information old u l true ip here calm sent given e g h =
    does_hear terms past secrets link protocol information old u l (is_up_in terms past) (packet_in information) here calm sent given e refl
    (of_member terms past secrets link protocol information (is_up_in terms past) true false e refl g (other_than protocol IPCP IP g refl))
does_whole terms past secrets link protocol information old u l false true here calm sent given e g h =
    does_give terms past secrets link protocol information old u l (is_up l) here calm sent given
    (of_member terms past secrets link protocol information (is_up l) false true e (sym (up_is terms l.ipcp (calls_in past) here.reached.ipcp)) g h)
does_whole terms past secrets link protocol information old u l false false here calm sent given e g h =
    does_nothing terms past secrets link protocol information old u l (is_up_in terms past) false here calm sent given
    (of_member terms past secrets link protocol information (is_up_in terms past) false false e refl g h) refl

-- a piece: what is gathered by it is used
does_piece : {S : Type 0} (terms : Terms) (past : List Moment) (secrets : SecretsPair) (link protocol : ℕ) (information : List ℕ) (left : List (List ℕ)) (old : GatherNow) (u : UnitState S) (l : Live)
    → Brought terms past secrets link protocol information left old l u → Calm (record u { live = Some l }) → u.sent ≡ [] → u.given ≡ []
    → is_member_in link past ≡ true → (protocol == MULTILINK) ≡ true
    → Does terms past secrets (Brings secrets link protocol information ∷ []) u.counts (used_all secrets left (record u { live = Some l }))
does_piece {S = S} terms past secrets link protocol information left old u l here calm sent given e f =
    let w : UnitState S = record u { live = Some l } in
    let up : Bool = is_up_in terms past in
    let b : OfMember terms past secrets link protocol information up false false = of_member terms past secrets link protocol information up false false e refl (other_than protocol MULTILINK IPCP f refl) (other_than protocol MULTILINK IP f refl) in
    let m : Mid terms (Brings secrets link protocol information ∷ past) [] left w = record {
      l = l;
      live = refl;
      reached = reached_brings terms past secrets link protocol information left old l u l.passed_at here (here.reached.passed_at ∙ and_false up (time_in terms past) (passed_in terms past) ∙ sym b.passed);
      asked_is = b.asked;
      going = here.going;
      ended = here.ended;
      target = here.target;
    } in
    let flows : Flows terms (Brings secrets link protocol information ∷ []) past [] u.counts w = flows_brings terms past secrets link protocol information left old l u w here sent given refl
    (no_more up u.given ∙ ap (λ (x : List (List ℕ)). u.given ++ x) (sym b.gives)) (sym (ap (λ (d : Option Drop). counted d u.counts) b.drops)) in
    uses_all terms past secrets left (Brings secrets link protocol information ∷ []) (Brings secrets link protocol information ∷ []) u.counts w refl tt m
    (λ none. member_came terms past u.time old [] l link here.reached e none) calm flows

brought_all : {S : Type 0} (terms : Terms) (past : List Moment) (secrets : SecretsPair) (link protocol : ℕ) (information : List ℕ) (left left' : List (List ℕ)) (old : GatherNow) (l : Live) (u : UnitState S) → left ≡ left'
    → Brought terms past secrets link protocol information left old l u → Brought terms past secrets link protocol information left' old l u
brought_all terms past secrets link protocol information left left' old l u e b =
    record { reached = b.reached; gathers = subst (λ (x : List (List ℕ)). GathersAll terms.mrru u.gather (Brings secrets link protocol information ∷ past) x) e b.gathers; done = b.done; going = b.going; ended = b.ended; target = b.target }

does_frame_by : {S : Type 0} (terms : Terms) (past : List Moment) (secrets : SecretsPair) (link protocol : ℕ) (information : List ℕ) (there piece : Bool) (old : GatherNow) (g : Gathered) (u : UnitState S) (l : Live)
    → Brought terms past secrets link protocol information g.packets old l u → Calm (record u { live = Some l }) → u.sent ≡ [] → u.given ≡ []
    → is_member_in link past ≡ there → (protocol == MULTILINK) ≡ piece → ((there && piece) ≡ false → g.packets ≡ [])
    → Does terms past secrets (Brings secrets link protocol information ∷ []) u.counts
    (if there then (if piece then used_all secrets g.packets (record u { live = Some l }) else brought secrets protocol information (record u { live = Some l })) else stranger (record u { live = Some l }))
does_frame_by terms past secrets link protocol information true true old g u l b calm sent given e f none = does_piece terms past secrets link protocol information g.packets old u l b calm sent given e f
does_frame_by terms past secrets link protocol information true false old g u l b calm sent given e f none =
    does_whole terms past secrets link protocol information old u l (protocol == IPCP) (protocol == IP) (brought_all terms past secrets link protocol information g.packets [] old l u (none refl) b) calm sent given e refl refl
does_frame_by terms past secrets link protocol information false piece old g u l b calm sent given e f none =
    does_stranger terms past secrets link protocol information old u l (brought_all terms past secrets link protocol information g.packets [] old l u (none refl) b) calm sent given e

pub does_frame : {S : Type 0} (terms : Terms) (past : List Moment) (secrets : SecretsPair) (link protocol : ℕ) (information : List ℕ) (old : GatherNow) (g : Gathered) (u : UnitState S) → (b : Begins terms past old u)
    → u.gather ≡ g.gather → Gathers (if_multilink b.l.mrru (piece_of (has_link link b.l.members) (protocol == MULTILINK) link information)) old g → Calm u
    → u.sent ≡ [] → u.given ≡ [] → Does terms past secrets (Brings secrets link protocol information ∷ []) u.counts (framed secrets link protocol information g.packets u)
does_frame {S = S} terms past secrets link protocol information old g u b kept asked calm sent given =
    let same : u ≡ record u { live = Some b.l } = ap (λ (o : Option Live). record u { live = o }) b.live in
    let there : is_member_in link past ≡ has_link link b.l.members = sym (ap is_some (b.reached.members link)) ∙ sym (has_is link b.l.members) in
    let gathers : GathersAll terms.mrru g.gather (Brings secrets link protocol information ∷ past) g.packets =
    gathers_brings terms.mrru b.l.mrru (has_link link b.l.members) (protocol == MULTILINK) secrets link protocol information past old g b.reached.mrru there refl asked b.reached.gathers in
    subst (λ (v : UnitState S). Does terms past secrets (Brings secrets link protocol information ∷ []) u.counts (framed secrets link protocol information g.packets v)) (sym same)
    (does_frame_by terms past secrets link protocol information (has_link link b.l.members) (protocol == MULTILINK) old g u b.l
    (record { reached = b.reached; gathers = subst (λ (n : GatherNow). GathersAll terms.mrru n (Brings secrets link protocol information ∷ past) g.packets) (sym kept) gathers; done = b.done; going = b.going; ended = b.ended; target = b.target })
    (subst (λ (v : UnitState S). Calm v) same calm) sent given there refl
    (λ e. no_piece b.l.mrru (has_link link b.l.members) (protocol == MULTILINK) link information old g e asked))
