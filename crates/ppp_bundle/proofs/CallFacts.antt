-- What sending leaves of a bundle and its unit: the bundle differs in the pieces that it has sent alone.
use Rattle.std.proofs.Common.{◌≡◌, ℕ, ◌≤◌, Bool, Option, None, Some, List, [], ◌∷◌, ◌++◌, refl, ap, sym, subst, ◌∙◌, arith}
use Rattle.std.specs.Prelude.{IfSome}
use Rattle.ppp_base.specs.declared.protocol.TheConstants.{IPCP}
use Rattle.ppp_base.specs.Mrru.{MrruPair}
use Rattle.ppp_mp.specs.Schedule.{SendingNow}
use Rattle.ppp_packet.specs.declared.packet.Packet.{Packet}
use Rattle.ppp_packet.specs.PacketOf.{laid_packet}
use Rattle.ppp_unit_parts.specs.declared.live.Live.{Live}
use Rattle.ppp_unit_parts.specs.declared.member.Member.{Member}
use Rattle.ppp_unit_parts.specs.declared.outbox.Sending.{Sending}
use Rattle.ppp_unit_parts.specs.Fits.{Fits}
use Rattle.ppp_bundle.specs.IpCalls.{sends_all}
use Rattle.ppp_unit_parts.specs.Member.{AreInOrder}
use Rattle.ppp_unit_parts.specs.Pieces.{all_sent, left_by_all, left_by_sending, sent_as}
use Rattle.ppp_bundle.specs.Sound.{Agrees, IsTurning}
use Rattle.ppp_bundle.specs.State.{UnitState}
use Rattle.ppp_unit_parts.specs.Live.{most_of, most_to_peer, mru_of_first}
use Rattle.ppp_bundle.specs.History.{within}

pub all_sent_is : {S : Type 0} (packets : List Packet) (u : UnitState S) (l : Live) (sent : List Sending)
    → sends_all packets (record u { live = Some l; sent = sent }) ≡ record u { live = Some (left_by_all l packets); sent = all_sent l packets sent }
all_sent_is [] u l sent = refl
all_sent_is (p ∷ packets) u l sent =
    all_sent_is packets u (left_by_sending l l.mrru IPCP (laid_packet p)) (sent ++ sent_as l l.mrru IPCP (laid_packet p))

pub sends_all_is : {S : Type 0} (packets : List Packet) (u new : UnitState S) (l l' : Live) (sent : List Sending) → new ≡ record u { live = Some l'; sent = sent } → l' ≡ left_by_all l packets → sent ≡ all_sent l packets u.sent
    → new ≡ sends_all packets (record u { live = Some l })
sends_all_is {S = S} packets u new l l' sent is left all =
    is ∙ ap (λ (x : Live). record u { live = Some x; sent = sent }) left ∙ ap (λ (x : List Sending). record u { live = Some (left_by_all l packets); sent = x }) all
    ∙ sym (all_sent_is packets u l u.sent)

-- what a packet leaves of the bundle
pub one_left : (m : Option MrruPair) (l : Live) (protocol : ℕ) (information : List ℕ) → left_by_sending l m protocol information ≡ record l { pieces = (left_by_sending l m protocol information).pieces }
one_left None l protocol information = refl
one_left (Some mrru) l protocol information = refl

pub all_left : (packets : List Packet) (l : Live) → left_by_all l packets ≡ record l { pieces = (left_by_all l packets).pieces }
all_left [] l = refl
all_left (p ∷ packets) l =
    let l1 : Live = left_by_sending l l.mrru IPCP (laid_packet p) in
    all_left packets l1 ∙ ap (λ (x : Live). record x { pieces = (left_by_all l1 packets).pieces }) (one_left l.mrru l IPCP (laid_packet p))

-- FACTS

turning_at : {S : Type 0} (was is : Bool) (u : UnitState S) (l : Live) (pieces : SendingNow) (sent : List Sending) → IsTurning was is (record u { live = Some l })
    → IsTurning was is (record u { live = Some (record l { pieces = pieces }); sent = sent })
turning_at was is u l pieces sent t = record {
  target = t.target;
  opened = t.opened;
  is_now = t.is_now;
  since = t.since;
  room = t.room;
  fits = record { order = t.fits.order; count = t.fits.count };
  says = t.says;
  bundle = t.bundle;
  stays = t.stays;
  session = record { past = t.session.past; stands = t.session.stands };
  time = t.time;
}

pub still_turning : {S : Type 0} (was is : Bool) (u new : UnitState S) (l l' : Live) (sent : List Sending) → new ≡ record u { live = Some l'; sent = sent } → l' ≡ record l { pieces = l'.pieces }
    → IsTurning was is (record u { live = Some l }) → IsTurning was is new
still_turning {S = S} was is u new l l' sent e same t =
    subst (λ (v : UnitState S). IsTurning was is v) (sym (e ∙ ap (λ (x : Live). record u { live = Some x; sent = sent }) same)) (turning_at was is u l l'.pieces sent t)

agrees_at : {S : Type 0} (u : UnitState S) (l : Live) (pieces : SendingNow) (sent : List Sending) → Agrees (record u { live = Some l }) → Agrees (record u { live = Some (record l { pieces = pieces }); sent = sent })
agrees_at u l pieces sent t = record {
  target = t.target;
  opened = t.opened;
  since = t.since;
  room = t.room;
  fits = record { order = t.fits.order; count = t.fits.count };
  says = t.says;
  bundle = t.bundle;
  stays = t.stays;
  session = record { past = t.session.past; stands = t.session.stands };
  time = t.time;
}

pub still_agrees : {S : Type 0} (u new : UnitState S) (l l' : Live) (sent : List Sending) → u.live ≡ Some l → new ≡ record u { live = Some l'; sent = sent } → l' ≡ record l { pieces = l'.pieces } → Agrees u → Agrees new
still_agrees {S = S} u new l l' sent live e same t =
    let here : u ≡ record u { live = Some l } = ap (λ (o : Option Live). record u { live = o }) live in
    subst (λ (v : UnitState S). Agrees v) (sym (e ∙ ap (λ (x : Live). record u { live = Some x; sent = sent }) same)) (agrees_at u l l'.pieces sent (subst (λ (v : UnitState S). Agrees v) here t))

-- A plain bundle's peer takes no more than a frame holds.
first_mru : (members : List Member) → AreInOrder 0 members → mru_of_first members ≤ 1500
first_mru [] order = omega arith
first_mru (m ∷ members) order = order.3

most_plain : (m : Option MrruPair) (members : List Member) → AreInOrder 0 members → m ≡ None → most_of m members ≤ 1500
most_plain None members order e = first_mru members order
most_plain (Some mrru) members order e = absurd (let f : Some mrru ≡ None = e in cc)

pub whole_fits : (live : Option Live) (most n : ℕ) → IfSome live Fits → IfSome live (λ l. most ≡ most_to_peer l) → n ≤ most → IfSome live (λ l. l.mrru ≡ None → n ≤ 1508)
whole_fits None most n fits is within = tt
whole_fits (Some l) most n fits is within = λ e. (let few : most_of l.mrru l.members ≤ 1500 = most_plain l.mrru l.members fits.order e in omega (arith, few, is, within))
