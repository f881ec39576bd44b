-- What a bundle sends at a moment: a plain bundle whole packets, a multilink bundle the pieces of its cuts, by their numbers.
use Rattle.std.proofs.Common.{◌≡◌, ℕ, suc, ◌+◌, ◌/◌, ◌%◌, ◌<◌, Bool, true, false, Option, None, Some, List, [], ◌∷◌, ◌++◌, length, refl, ap, sym, subst, subst₂, ◌∙◌, append_assoc, append-nil, arith}
use Rattle.std.proofs.Math.Nat.{mod-add-mod}
use Rattle.std.proofs.lemmas.List.{length-append}
use Rattle.std.proofs.lemmas.List.Elements.{filter-append}
use Rattle.std.specs.List.{filter}
use Rattle.std.specs.Prelude.{if◌then◌else◌, nat_lt, option_to_list}
use Rattle.ppp_base.specs.Mrru.{MrruPair}
use Rattle.ppp_base.specs.declared.protocol.TheConstants.{IPCP, MULTILINK}
use Rattle.ppp_mp.specs.Header.{header_of, long_octets, long_space}
use Rattle.ppp_mp.specs.Members.{AreMembers}
use Rattle.ppp_mp.specs.Schedule.{CutPacket, HasSent, SendingNow, SentPiece, sending_after, sent_of}
use Rattle.ppp_mp.specs.declared.cuts.CutPiece.{CutPiece}
use Rattle.ppp_mp.specs.declared.members.MemberView.{MemberView}
use Rattle.ppp_mp.proofs.Sends.{number_is}
use Rattle.ppp_packet.specs.declared.packet.Packet.{Packet}
use Rattle.ppp_packet.specs.PacketOf.{laid_packet}
use Rattle.ppp_unit_parts.specs.declared.live.Live.{Live}
use Rattle.ppp_unit_parts.specs.declared.member.Member.{Member}
use Rattle.ppp_unit_parts.specs.declared.outbox.Sending.{Sending}
use Rattle.ppp_unit_parts.specs.Member.{views_of}
use Rattle.ppp_unit_parts.specs.Pieces.{after_pieces, all_sent, cut_of, left_by_all, left_by_sending, packet_of, pieces_of, sending, sent_as, whole_on, with_headers}
use Rattle.ppp_unit_parts.proofs.SendFacts.{cut_is, cut_of_is}
use Rattle.ppp_bundle.specs.Frames.{Inner}
use Rattle.ppp_bundle.specs.History.{Moment, Terms, cuts_by, cuts_in, entered_in, packets_of, rejects_by, rejects_in, sends_by, views_up_to, whole_by, whole_in}
use Rattle.ppp_bundle.specs.Lives.{CutsAll, HasMember, SendsPieces, SendsSince, is_rejected, is_sent}

-- PACKETS ONE AFTER ANOTHER

-- what some packets are sent as, and the bundle then
abbrev pub all_out : Live → List Inner → List Sending
all_out l [] = []
all_out l (i ∷ packets) = sent_as l l.mrru i.protocol i.information ++ all_out (left_by_sending l l.mrru i.protocol i.information) packets

abbrev pub all_left_by : Live → List Inner → Live
all_left_by l [] = l
all_left_by l (i ∷ packets) = all_left_by (left_by_sending l l.mrru i.protocol i.information) packets

pub out_is : (packets : List Packet) (l : Live) (sent : List Sending) → all_sent l packets sent ≡ sent ++ all_out l (packets_of packets)
out_is [] l sent = sym (append-nil sent)
out_is (p ∷ packets) l sent =
    let l1 : Live = left_by_sending l l.mrru IPCP (laid_packet p) in
    let one : List Sending = sent_as l l.mrru IPCP (laid_packet p) in
    out_is packets l1 (sent ++ one) ∙ append_assoc sent one (all_out l1 (packets_of packets))

pub left_is : (packets : List Packet) (l : Live) → left_by_all l packets ≡ all_left_by l (packets_of packets)
left_is [] l = refl
left_is (p ∷ packets) l = left_is packets (left_by_sending l l.mrru IPCP (laid_packet p))

-- IN A PLAIN BUNDLE

one_plain : (m : Option MrruPair) (l : Live) (i : Inner) → m ≡ None → (sent_as l m i.protocol i.information ≡ whole_on l.members i.protocol i.information) × (left_by_sending l m i.protocol i.information ≡ l)
one_plain None l i e = (refl, refl)
one_plain (Some mrru) l i e = absurd (let f : Some mrru ≡ None = e in cc)

abbrev pub head_link : List MemberView → ℕ
head_link [] = 0
head_link (v ∷ views) = v.link

whole_one : (members : List Member) (entered : Option MemberView) (i : Inner) → views_of members ≡ option_to_list entered → whole_on members i.protocol i.information ≡ whole_by entered (i ∷ [])
whole_one [] None i e = refl
whole_one [] (Some v) i e = absurd (let f : [] ≡ v ∷ [] = e in cc)
whole_one (m ∷ members) None i e = absurd (let f : record { link = m.link; mru = m.mru } ∷ views_of members ≡ [] = e in cc)
whole_one (m ∷ members) (Some v) i e = ap (λ (link : ℕ). sending link i.protocol i.information ∷ []) (ap head_link e)

whole_more : (entered : Option MemberView) (i : Inner) (packets : List Inner) → whole_by entered (i ∷ []) ++ whole_by entered packets ≡ whole_by entered (i ∷ packets)
whole_more None i packets = refl
whole_more (Some v) i packets = refl

pub nothing_whole : (entered : Option MemberView) → [] ≡ whole_by entered []
nothing_whole None = refl
nothing_whole (Some v) = refl

plain_is : (packets : List Inner) (l : Live) (entered : Option MemberView) → l.mrru ≡ None → views_of l.members ≡ option_to_list entered → (all_out l packets ≡ whole_by entered packets) × (all_left_by l packets ≡ l)
plain_is [] l entered e v = (nothing_whole entered, refl)
plain_is (i ∷ packets) l entered e v =
    let one = one_plain l.mrru l i e in
    let rest = plain_is packets l entered e v in (
      ap (λ (x : List Sending). x ++ all_out (left_by_sending l l.mrru i.protocol i.information) packets) (one.0 ∙ whole_one l.members entered i v)
          ∙ ap (λ (x : Live). whole_by entered (i ∷ []) ++ all_out x packets) one.1
          ∙ ap (λ (x : List Sending). whole_by entered (i ∷ []) ++ x) rest.0
          ∙ whole_more entered i packets,
      ap (λ (x : Live). all_left_by x packets) one.1 ∙ rest.1,
    )

-- IN A MULTILINK BUNDLE

abbrev pub multi_out : SendingNow → List MemberView → List Inner → List Sending
multi_out now members [] = []
multi_out now members (i ∷ packets) =
    pieces_of now members (packet_of i.protocol i.information) ++ multi_out (after_pieces now members (packet_of i.protocol i.information)) members packets

abbrev pub multi_left : SendingNow → List MemberView → List Inner → SendingNow
multi_left now members [] = now
multi_left now members (i ∷ packets) = multi_left (after_pieces now members (packet_of i.protocol i.information)) members packets

one_multi : (m : Option MrruPair) (mrru : MrruPair) (l : Live) (i : Inner) → m ≡ Some mrru
    → (sent_as l m i.protocol i.information ≡ pieces_of l.pieces (views_of l.members) (packet_of i.protocol i.information))
    × (left_by_sending l m i.protocol i.information ≡ record l { pieces = after_pieces l.pieces (views_of l.members) (packet_of i.protocol i.information) })
one_multi None mrru l i e = absurd (let f : None ≡ Some mrru = e in cc)
one_multi (Some other) mrru l i e = (refl, refl)

multi_is : (packets : List Inner) (mrru : MrruPair) (l : Live) → l.mrru ≡ Some mrru
    → (all_out l packets ≡ multi_out l.pieces (views_of l.members) packets) × ((all_left_by l packets).pieces ≡ multi_left l.pieces (views_of l.members) packets)
multi_is [] mrru l e = (refl, refl)
multi_is (i ∷ packets) mrru l e =
    let one = one_multi l.mrru mrru l i e in
    let l1 : Live = record l { pieces = after_pieces l.pieces (views_of l.members) (packet_of i.protocol i.information) } in
    let rest = multi_is packets mrru l1 e in (
      ap (λ (x : List Sending). x ++ all_out (left_by_sending l l.mrru i.protocol i.information) packets) one.0
          ∙ ap (λ (x : Live). pieces_of l.pieces (views_of l.members) (packet_of i.protocol i.information) ++ all_out x packets) one.1
          ∙ ap (λ (x : List Sending). pieces_of l.pieces (views_of l.members) (packet_of i.protocol i.information) ++ x) rest.0,
      ap (λ (x : Live). (all_left_by x packets).pieces) one.1 ∙ rest.1,
    )

-- the pieces, without their headers
abbrev pub pieces_more : SendingNow → List MemberView → List Inner → List SentPiece
pieces_more now [] packets = []
pieces_more now (m ∷ members) [] = []
pieces_more now (m ∷ members) (i ∷ packets) =
    let packet = packet_of i.protocol i.information in
    let cuts = cut_of (length packet) (m ∷ members) now.turn in
    sent_of packet (length cuts) 0 cuts ++ pieces_more (after_pieces now (m ∷ members) packet) (m ∷ members) packets

headers_same : (a b : ℕ) (pieces : List SentPiece) → a % long_space ≡ b % long_space → with_headers a pieces ≡ with_headers b pieces
headers_same a b [] e = refl
headers_same a b (p ∷ pieces) e =
    let next : (a + 1) % long_space ≡ (b + 1) % long_space = sym (mod-add-mod a long_space 1) ∙ ap (λ (n : ℕ). (n + 1) % long_space) e ∙ mod-add-mod b long_space 1 in
    ap (λ (n : ℕ). sending p.link MULTILINK (header_of long_octets p.first p.last n ++ p.octets) ∷ with_headers (a + 1) pieces) e
    ∙ ap (λ (x : List Sending). sending p.link MULTILINK (header_of long_octets p.first p.last (b % long_space) ++ p.octets) ∷ x) (headers_same (a + 1) (b + 1) pieces next)

headers_append : (n : ℕ) (one other : List SentPiece) → with_headers n (one ++ other) ≡ with_headers n one ++ with_headers (n + length one) other
headers_append n [] other = let e : n ≡ n + 0 = omega arith in ap (λ (k : ℕ). with_headers k other) e
headers_append n (p ∷ one) other =
    let e : n + 1 + length one ≡ n + suc (length one) = omega arith in
    ap (λ (x : List Sending). sending p.link MULTILINK (header_of long_octets p.first p.last (n % long_space) ++ p.octets) ∷ x)
    (headers_append (n + 1) one other ∙ ap (λ (k : ℕ). with_headers (n + 1) one ++ with_headers k other) e)

sent_kept : (n : ℕ) (pieces : List SentPiece) → filter is_sent (with_headers n pieces) ≡ with_headers n pieces
sent_kept n [] = refl
sent_kept n (p ∷ pieces) = ap (λ (x : List Sending). sending p.link MULTILINK (header_of long_octets p.first p.last (n % long_space) ++ p.octets) ∷ x) (sent_kept (n + 1) pieces)

none_rejected : (n : ℕ) (pieces : List SentPiece) → filter is_rejected (with_headers n pieces) ≡ []
none_rejected n [] = refl
none_rejected n (p ∷ pieces) = none_rejected (n + 1) pieces

nobody_sends : (packets : List Inner) (now : SendingNow) → multi_out now [] packets ≡ []
nobody_sends [] now = refl
nobody_sends (i ∷ packets) now = nobody_sends packets now

nobody_goes_on : (packets : List Inner) (now : SendingNow) → multi_left now [] packets ≡ now
nobody_goes_on [] now = refl
nobody_goes_on (i ∷ packets) now = nobody_goes_on packets now

sent_length : (packet : List ℕ) (count j : ℕ) (pieces : List CutPiece) → length (sent_of packet count j pieces) ≡ length pieces
sent_length packet count j [] = refl
sent_length packet count j (p ∷ pieces) = ap suc (sent_length packet count (j + 1) pieces)

twice_mod : (n m : ℕ) → n % m % m ≡ n % m
twice_mod n m = (let e : n % m ≡ n % m + 0 = omega arith in ap (λ (k : ℕ). k % m) e) ∙ mod-add-mod n m 0 ∙ (let e : n + 0 ≡ n = omega arith in ap (λ (k : ℕ). k % m) e)

out_headers : (packets : List Inner) (now : SendingNow) (members : List MemberView) → multi_out now members packets ≡ with_headers now.number (pieces_more now members packets)
out_headers packets now [] = nobody_sends packets now
out_headers [] now (m ∷ members) = refl
out_headers (i ∷ packets) now (m ∷ members) =
    let packet : List ℕ = packet_of i.protocol i.information in
    let cuts : List CutPiece = cut_of (length packet) (m ∷ members) now.turn in
    let first : List SentPiece = sent_of packet (length cuts) 0 cuts in
    let next : SendingNow = after_pieces now (m ∷ members) packet in
    let rest : List SentPiece = pieces_more next (m ∷ members) packets in
    let number : next.number % long_space ≡ (now.number + length first) % long_space =
    twice_mod (now.number + length cuts) long_space ∙ ap (λ (n : ℕ). (now.number + n) % long_space) (sym (sent_length packet (length cuts) 0 cuts)) in
    ap (λ (x : List Sending). with_headers now.number first ++ x) (out_headers packets next (m ∷ members) ∙ headers_same next.number (now.number + length first) rest number)
    ∙ sym (headers_append now.number first rest)

-- WHAT WAS SENT

some_octet : (b : Bool) (one two : List ℕ) (information : List ℕ) → 0 < length (one ++ information) → 0 < length (two ++ information) → 0 < length ((if b then one else two) ++ information)
some_octet true one two information f g = f
some_octet false one two information f g = g

some_packet : (i : Inner) → 0 < length (packet_of i.protocol i.information)
some_packet i = some_octet (nat_lt i.protocol 0x100) (i.protocol ∷ []) (i.protocol / 256 ∷ i.protocol % 256 ∷ []) i.information (omega arith) (omega arith)

has_more : (cuts : List CutPacket) (sent : List SentPiece) (now : SendingNow) (m : MemberView) (members : List MemberView) (packet : List ℕ) → 0 < length packet → AreMembers 0 (m ∷ members)
    → HasSent long_space long_octets cuts sent now
    → let pieces = cut_of (length packet) (m ∷ members) now.turn in
    HasSent long_space long_octets (record { packet = packet; members = m ∷ members } ∷ cuts) (sent ++ sent_of packet (length pieces) 0 pieces) (after_pieces now (m ∷ members) packet)
has_more cuts sent now m members packet some lawful h =
    (sent, now, cut_of (length packet) (m ∷ members) now.turn, h, cut_of_is (length packet) now.turn (m ∷ members) some (omega arith) lawful, refl, refl)

has_all : (packets : List Inner) (members : List MemberView) (cuts : List CutPacket) (sent : List SentPiece) (now : SendingNow) → AreMembers 0 members → HasSent long_space long_octets cuts sent now
    → HasSent long_space long_octets (cuts_by members packets cuts) (sent ++ pieces_more now members packets) (multi_left now members packets)
has_all packets [] cuts sent now lawful h =
    subst₂ (λ (x : List SentPiece) (n : SendingNow). HasSent long_space long_octets cuts x n) (sym (append-nil sent)) (sym (nobody_goes_on packets now)) h
has_all [] (m ∷ members) cuts sent now lawful h = subst (λ (x : List SentPiece). HasSent long_space long_octets cuts x now) (sym (append-nil sent)) h
has_all (i ∷ packets) (m ∷ members) cuts sent now lawful h =
    let packet : List ℕ = packet_of i.protocol i.information in
    let pieces : List CutPiece = cut_of (length packet) (m ∷ members) now.turn in
    let first : List SentPiece = sent_of packet (length pieces) 0 pieces in
    let next : SendingNow = after_pieces now (m ∷ members) packet in
    let cut : CutPacket = record { packet = packet; members = m ∷ members } in
    subst (λ (x : List SentPiece). HasSent long_space long_octets (cuts_by (m ∷ members) packets (cut ∷ cuts)) x (multi_left next (m ∷ members) packets))
    (append_assoc sent first (pieces_more next (m ∷ members) packets))
    (has_all packets (m ∷ members) (cut ∷ cuts) (sent ++ first) next lawful (has_more cuts sent now m members packet (some_packet i) lawful h))

-- Cuts stand for one list of pieces.
pub has_one : (cuts : List CutPacket) (one other : List SentPiece) (now later : SendingNow) → HasSent long_space long_octets cuts one now → HasSent long_space long_octets cuts other later → (one ≡ other) × (now ≡ later)
has_one [] one other now later h k = (h.0 ∙ sym k.0, h.1 ∙ sym k.1)
has_one (cut ∷ cuts) one other now later h k =
    let before = has_one cuts h.0 k.0 h.1 k.1 h.3 k.3 in
    let pieces : h.2 ≡ k.2 =
    cut_is (length cut.packet) h.1.turn cut.members h.2 h.4 ∙ ap (λ (n : SendingNow). cut_of (length cut.packet) cut.members n.turn) before.1 ∙ sym (cut_is (length cut.packet) k.1.turn cut.members k.2 k.4) in (
      h.5 ∙ ap (λ (x : List SentPiece). x ++ sent_of cut.packet (length h.2) 0 h.2) before.0 ∙ ap (λ (ps : List CutPiece). k.0 ++ sent_of cut.packet (length ps) 0 ps) pieces ∙ sym k.5,
      h.6 ∙ ap (λ (n : SendingNow). sending_after long_space n (length cut.members) (length h.2)) before.1 ∙ ap (λ (ps : List CutPiece). sending_after long_space k.1 (length cut.members) (length ps)) pieces ∙ sym k.6,
    )

-- A MOMENT

-- what is known of a bundle as it sends
pub record Sends (m : Option MrruPair) (l : Live) (past : List Moment) : Type 0 where
  pub mrru : l.mrru ≡ m
  pub some : HasMember m l.members past
  pub views : views_of l.members ≡ views_up_to 16 past
  pub lawful : AreMembers 0 (views_of l.members)

pub cuts_then : (terms : Terms) (past : List Moment) (m : Option MrruPair) (moment : Moment) (l : Live) → Sends m l past → CutsAll terms m l.pieces past
    → CutsAll terms m (all_left_by l (sends_by terms moment past)).pieces (moment ∷ past)
cuts_then terms past None moment l s c = ap (λ (x : Live). x.pieces) (plain_is (sends_by terms moment past) l (entered_in past) s.mrru s.some).1 ∙ c
cuts_then terms past (Some mrru) moment l s c =
    let packets : List Inner = sends_by terms moment past in (
      c.0 ++ pieces_more l.pieces (views_of l.members) packets,
      subst₂ (λ (views : List MemberView) (n : SendingNow). HasSent long_space long_octets (cuts_by views packets (cuts_in terms past)) (c.0 ++ pieces_more l.pieces (views_of l.members) packets) n)
          s.views (sym (multi_is packets mrru l s.mrru).1) (has_all packets (views_of l.members) (cuts_in terms past) c.0 l.pieces s.lawful c.1),
    )

pieces_then : (before more next : List SentPiece) (waits : List Sending) (number : ℕ) → number ≡ length (before ++ more) % long_space → filter is_sent waits ≡ with_headers (length before) more
    → filter is_sent (waits ++ with_headers number next) ≡ with_headers (length before) (more ++ next)
pieces_then before more next waits number e is =
    filter-append is_sent waits (with_headers number next)
    ∙ ap (λ (x : List Sending). x ++ filter is_sent (with_headers number next)) is
    ∙ ap (λ (x : List Sending). with_headers (length before) more ++ x) (sent_kept number next ∙ headers_same number (length before + length more) next (ap (λ (n : ℕ). n % long_space) (e ∙ ap (λ (n : ℕ). n % long_space) (length-append before more)) ∙ twice_mod (length before + length more) long_space))
    ∙ sym (headers_append (length before) more next)

rejects_then : (rejects : List Sending) (waits : List Sending) (number : ℕ) (next : List SentPiece) → rejects ++ filter is_rejected (waits ++ with_headers number next) ≡ rejects ++ filter is_rejected waits
rejects_then rejects waits number next =
    ap (λ (x : List Sending). rejects ++ x) (filter-append is_rejected waits (with_headers number next) ∙ ap (λ (x : List Sending). filter is_rejected waits ++ x) (none_rejected number next) ∙ append-nil (filter is_rejected waits))

-- a moment at which nothing is rejected
pub sends_then : (terms : Terms) (since past : List Moment) (m : Option MrruPair) (moment : Moment) (l : Live) (waits : List Sending) → Sends m l (since ++ past) → CutsAll terms m l.pieces (since ++ past)
    → rejects_by terms moment (since ++ past) ≡ [] → SendsSince terms m since past waits → SendsSince terms m (moment ∷ since) past (waits ++ all_out l (sends_by terms moment (since ++ past)))
sends_then terms since past None moment l waits s c none e =
    let packets : List Inner = sends_by terms moment (since ++ past) in
    ap (λ (x : List Sending). whole_in terms past ++ (waits ++ x)) (plain_is packets l (entered_in (since ++ past)) s.mrru s.some).0
    ∙ sym (append_assoc (whole_in terms past) waits (whole_by (entered_in (since ++ past)) packets))
    ∙ ap (λ (x : List Sending). x ++ whole_by (entered_in (since ++ past)) packets) e
sends_then terms since past (Some mrru) moment l waits s c none e =
    let packets : List Inner = sends_by terms moment (since ++ past) in
    let next : List SentPiece = pieces_more l.pieces (views_of l.members) packets in
    let one = has_one (cuts_in terms (since ++ past)) (e.before ++ e.more) c.0 e.later l.pieces e.sends c.1 in
    let h : HasSent long_space long_octets (cuts_in terms (since ++ past)) (e.before ++ e.more) l.pieces = subst (λ (x : List SentPiece). HasSent long_space long_octets (cuts_in terms (since ++ past)) x l.pieces) (sym one.0) c.1 in
    let is : all_out l packets ≡ with_headers l.pieces.number next = (multi_is packets mrru l s.mrru).0 ∙ out_headers packets l.pieces (views_of l.members) in
    record {
      before = e.before;
      more = e.more ++ next;
      earlier = e.earlier;
      later = multi_left l.pieces (views_of l.members) packets;
      sent = e.sent;
      sends = subst₂ (λ (views : List MemberView) (x : List SentPiece). HasSent long_space long_octets (cuts_by views packets (cuts_in terms (since ++ past))) x (multi_left l.pieces (views_of l.members) packets))
          s.views (append_assoc e.before e.more next) (has_all packets (views_of l.members) (cuts_in terms (since ++ past)) (e.before ++ e.more) l.pieces s.lawful h);
      pieces = ap (λ (x : List Sending). filter is_sent (waits ++ x)) is
          ∙ pieces_then e.before e.more next waits l.pieces.number (number_is long_space long_octets (cuts_in terms (since ++ past)) (e.before ++ e.more) l.pieces h) e.pieces;
      rejects = ap (λ (x : List Sending). rejects_in terms past ++ filter is_rejected (waits ++ x)) is
          ∙ rejects_then (rejects_in terms past) waits l.pieces.number next ∙ e.rejects ∙ sym (append-nil (rejects_in terms (since ++ past)))
          ∙ ap (λ (x : List Sending). rejects_in terms (since ++ past) ++ x) (sym none);
    }

-- a moment at which nothing is sent, but this is rejected
pub nothing_cut : (views : List MemberView) (cuts : List CutPacket) → cuts_by views [] cuts ≡ cuts
nothing_cut [] cuts = refl
nothing_cut (m ∷ views) cuts = refl

pub rejects_more : (terms : Terms) (since past : List Moment) (mrru : MrruPair) (moment : Moment) (waits rejected : List Sending) → sends_by terms moment (since ++ past) ≡ []
    → rejected ≡ rejects_by terms moment (since ++ past) → filter is_sent rejected ≡ [] → filter is_rejected rejected ≡ rejected → SendsPieces terms since past waits → SendsPieces terms (moment ∷ since) past (waits ++ rejected)
rejects_more terms since past mrru moment waits rejected none is no_piece all e =
    let same : cuts_in terms (moment ∷ since ++ past) ≡ cuts_in terms (since ++ past) =
    ap (λ (packets : List Inner). cuts_by (views_up_to 16 (since ++ past)) packets (cuts_in terms (since ++ past))) none ∙ nothing_cut (views_up_to 16 (since ++ past)) (cuts_in terms (since ++ past)) in
    record {
      before = e.before;
      more = e.more;
      earlier = e.earlier;
      later = e.later;
      sent = e.sent;
      sends = subst (λ (cuts : List CutPacket). HasSent long_space long_octets cuts (e.before ++ e.more) e.later) (sym same) e.sends;
      pieces = filter-append is_sent waits rejected ∙ ap (λ (x : List Sending). filter is_sent waits ++ x) no_piece ∙ append-nil (filter is_sent waits) ∙ e.pieces;
      rejects = ap (λ (x : List Sending). rejects_in terms past ++ x) (filter-append is_rejected waits rejected ∙ ap (λ (x : List Sending). filter is_rejected waits ++ x) (all ∙ is))
          ∙ sym (append_assoc (rejects_in terms past) (filter is_rejected waits) (rejects_by terms moment (since ++ past)))
          ∙ ap (λ (x : List Sending). x ++ rejects_by terms moment (since ++ past)) e.rejects;
    }

-- at the start of a step nothing waits
pub sends_start : (terms : Terms) (past : List Moment) (m : Option MrruPair) (pieces : SendingNow) → CutsAll terms m pieces past → SendsSince terms m [] past []
sends_start terms past None pieces c = append-nil (whole_in terms past)
sends_start terms past (Some mrru) pieces c = record {
  before = c.0;
  more = [];
  earlier = pieces;
  later = pieces;
  sent = c.1;
  sends = subst (λ (x : List SentPiece). HasSent long_space long_octets (cuts_in terms past) x pieces) (sym (append-nil c.0)) c.1;
  pieces = refl;
  rejects = append-nil (rejects_in terms past);
}
