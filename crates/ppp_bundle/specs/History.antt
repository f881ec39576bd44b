-- What has happened to a bundle since it was made, by looking back over it, the newest first. Nothing here says in which order a unit does its work: only
-- what its IPCP and its gatherer stand for, what IPCP is asked just before each of its calls, and what is sent, given and dropped.
use Rattle.std.specs.Prelude.{ℕ, zero, suc, ◌*◌, ◌-◌, ◌<◌, ◌≤◌, ◌≡◌, ◌==◌, ◌&&◌, ◌||◌, ◌⊎◌, ⊤, min, nat_le, nat_lt, not, Bool, true, false, Option, None, Some, is_some, List, [], ◌∷◌, ◌++◌, length, if◌then◌else◌, take}
use Rattle.ppp_base.specs.declared.allow.Allow.{Allow}
use Rattle.ppp_base.specs.declared.posts.CloseCause.{CloseCause}
use Rattle.ppp_base.specs.declared.posts.CloseCause.TheVariants.{Idle, ConnectTime, IpcpFailed, EndedByPeer, TooManyChanges}
use Rattle.ppp_base.specs.declared.protocol.TheConstants.{IP, IPCP, LCP, MULTILINK}
use Rattle.ppp_base.specs.declared.octets.TheConstants.{MOST_FRAME}
use Rattle.ppp_base.specs.Mrru.{MrruPair}
use Rattle.ppp_base.specs.RingAfter.{one_more}
use Rattle.ppp_control.specs.Past.{automaton_after}
use Rattle.ppp_control.specs.Rules.{Call, by_itself, opens, comes_up, ticks, hears, happened_in}
use Rattle.ppp_ipcp.specs.Around.{Around, around}
use Rattle.ppp_ipcp.specs.Session.{IpcpCall}
use Rattle.ppp_mp.specs.Delivered.{Entry, Joins, Leaves, Comes}
use Rattle.ppp_mp.specs.Header.{fragment_of, long_octets, long_space}
use Rattle.ppp_mp.specs.Schedule.{CutPacket}
use Rattle.ppp_mp.specs.declared.members.MemberView.{MemberView}
use Rattle.ppp_packet.specs.declared.packet.Packet.{Packet}
use Rattle.ppp_packet.specs.PacketOf.{laid_packet, packet_in}
use Rattle.ppp_secrets.specs.declared.secrets.SecretsPair.{SecretsPair}
use Rattle.ppp_unit_parts.specs.declared.outbox.Sending.{Sending}
use Rattle.ppp_unit_parts.specs.declared.outbox.UnitCounts.{UnitCounts}
use Rattle.ppp_unit_parts.specs.declared.wish.UnitWish.{UnitWish}
use Rattle.ppp_unit_parts.specs.Live.{most_elapsed, most_of_ours}
use Rattle.ppp_bundle.specs.Frames.{Inner, inner, inner_of}
use Rattle.ppp_unit_parts.specs.Calls.{has_finished, is_rtr}
use Rattle.ppp_unit_parts.specs.Pieces.{packet_of, sending}
use Rattle.ppp_bundle.specs.UnitPart.{entered}

-- A link comes in, with what its peer takes, or goes out; a link brings a frame; a packet is gathered; a datagram is to go to the peer; the unit is told a
-- time, which is its time then; or IPCP is called, and answers.
pub data Moment : Type 0 where
  Enters : (link mru : ℕ) → Moment
  Goes : (link : ℕ) → Moment
  Brings : (secrets : SecretsPair) → (link protocol : ℕ) → (information : List ℕ) → Moment
  Gathered : (secrets : SecretsPair) → (packet : List ℕ) → Moment
  Carries : (datagram : List ℕ) → Moment
  Passes : (now : ℕ) → Moment
  Calls : (call : IpcpCall) → Moment

-- what stays while a bundle lives, and the time at which it was made
pub record Terms : Type 0 where
  pub wish : UnitWish
  pub allow : Allow
  pub mrru : Option MrruPair
  pub made_at : ℕ

-- the time
abbrev pub time_in : Terms → List Moment → ℕ
time_in terms [] = terms.made_at
time_in terms (Passes now ∷ past) = now
time_in terms (_ ∷ past) = time_in terms past

-- the calls of IPCP, the newest first
abbrev pub calls_in : List Moment → List IpcpCall
calls_in [] = []
calls_in (Calls call ∷ past) = call ∷ calls_in past
calls_in (_ ∷ past) = calls_in past

-- whether IPCP is in Opened after its calls (RFC 1661, section 4.1)
abbrev pub is_up_after : UnitWish → List IpcpCall → Bool
is_up_after wish calls = (automaton_after wish.ip.limits (happened_in calls)).state == 9

abbrev pub is_up_in : Terms → List Moment → Bool
is_up_in terms past = is_up_after terms.wish (calls_in past)

-- MEMBERS

-- what the peer of a link takes, where the link is a member: it came in, and hasn't gone out
abbrev pub mru_in : (link : ℕ) → List Moment → Option ℕ
mru_in link [] = None
mru_in link (Enters other mru ∷ past) = if other == link then Some mru else mru_in link past
mru_in link (Goes other ∷ past) = if other == link then None else mru_in link past
mru_in link (_ ∷ past) = mru_in link past

abbrev pub is_member_in : (link : ℕ) → List Moment → Bool
is_member_in link past = is_some (mru_in link past)

-- the members in link order, of the links 1 to so many
abbrev pub view_of : ℕ → Option ℕ → List MemberView
view_of link None = []
view_of link (Some mru) = record { link = link; mru = mru } ∷ []

abbrev pub views_up_to : ℕ → List Moment → List MemberView
views_up_to zero past = []
views_up_to (suc link) past = views_up_to link past ++ view_of (suc link) (mru_in (suc link) past)

-- the last link that came in, if one has
abbrev pub entered_in : List Moment → Option MemberView
entered_in [] = None
entered_in (Enters link mru ∷ past) = Some (record { link = link; mru = mru })
entered_in (_ ∷ past) = entered_in past

-- the most octets to the peer: its MRRU, or in a plain bundle the MRU of the one member, which is the last link that came in
abbrev pub most_by : Option MrruPair → Option MemberView → ℕ
most_by (Some mrru) entered = mrru.theirs
most_by None (Some m) = m.mru
most_by None None = 1500

abbrev pub most_in : Terms → List Moment → ℕ
most_in terms past = most_by terms.mrru (entered_in past)

-- WHAT COMES

-- what a member brings, or what was gathered of its pieces and is no longer than our MRRU
abbrev pub within : ℕ → Option Inner → Option Inner
within most None = None
within most (Some i) = if nat_le (length i.information) most then Some i else None

abbrev pub brought_by : Terms → Moment → List Moment → Option Inner
brought_by terms (Brings secrets link protocol information) past = if is_member_in link past then Some (inner protocol information) else None
brought_by terms (Gathered secrets packet) past = within (most_of_ours terms.mrru) (inner_of packet)
brought_by terms _ past = None

-- IPCP is asked: to hear a packet of protocol 8021;
abbrev pub to_hear : Around → Option Packet → List (Call Around)
to_hear a None = []
to_hear a (Some p) = hears p a ∷ []

abbrev pub to_hear_in : Around → Option Inner → List (Call Around)
to_hear_in a None = []
to_hear_in a (Some i) = if i.protocol == IPCP then to_hear a (packet_in i.information) else []

-- as the first link comes in, to open and then to come up;
abbrev pub to_begin : Option MemberView → List (Call Around)
to_begin None = by_itself opens ∷ by_itself comes_up ∷ []
to_begin (Some m) = []

-- and at each time that the unit is told, to look at its restart timer.
abbrev pub asked_by : Terms → Moment → List Moment → List (Call Around)
asked_by terms (Enters link mru) past = to_begin (entered_in past)
asked_by terms (Brings secrets link protocol information) past =
    to_hear_in (around terms.allow secrets (most_in terms past)) (brought_by terms (Brings secrets link protocol information) past)
asked_by terms (Gathered secrets packet) past = to_hear_in (around terms.allow secrets (most_in terms past)) (brought_by terms (Gathered secrets packet) past)
asked_by terms (Passes now) past = ticks ∷ []
asked_by terms _ past = []

abbrev pub rest_of : List (Call Around) → List (Call Around)
rest_of [] = []
rest_of (call ∷ calls) = calls

-- what is asked and not yet done
abbrev pub asked_in : Terms → List Moment → List (Call Around)
asked_in terms [] = []
asked_in terms (Calls call ∷ past) = rest_of (asked_in terms past)
asked_in terms (m ∷ past) = asked_by terms m past

-- A call is the first that is asked, at the time that it is.
pub record Answers (terms : Terms) (past : List Moment) (c : IpcpCall) : Type 0 where
  pub rest : List (Call Around)
  pub asked : asked_in terms past ≡ c.call ∷ rest
  pub now : c.happened.now ≡ time_in terms past

-- Each call is what was asked, and nothing else happens before all that was asked is done.
abbrev pub InOrder : Terms → List Moment → Type 0
InOrder terms [] = ⊤
InOrder terms (Calls call ∷ past) = Answers terms past call × InOrder terms past
InOrder terms (_ ∷ past) = (asked_in terms past ≡ []) × InOrder terms past

-- What has reached the gatherer: who came in and went out, and the pieces of links that were members then, in their order (RFC 1990, section 3).
abbrev pub piece_in : Bool → ℕ → List ℕ → List Entry
piece_in false link information = []
piece_in true link information = Comes link (fragment_of long_space long_octets information) ∷ []

abbrev pub entries_in : List Moment → List Entry
entries_in [] = []
entries_in (Enters link mru ∷ past) = Joins link ∷ entries_in past
entries_in (Goes link ∷ past) = Leaves link ∷ entries_in past
entries_in (Brings secrets link protocol information ∷ past) =
    piece_in (is_member_in link past && protocol == MULTILINK && nat_le long_octets (length information)) link information ++ entries_in past
entries_in (_ ∷ past) = entries_in past

-- the packets that were gathered, in their order
abbrev pub gathered_in : List Moment → List (List ℕ)
gathered_in [] = []
gathered_in (Gathered secrets packet ∷ past) = gathered_in past ++ packet ∷ []
gathered_in (_ ∷ past) = gathered_in past

-- WHAT IS SENT, GIVEN AND DROPPED

-- whether a datagram passes: in Opened one of the peer's, or one for the peer that is no longer than it takes
abbrev pub is_datagram : Option Inner → Bool
is_datagram None = false
is_datagram (Some i) = i.protocol == IP

abbrev pub passes_by : Terms → Moment → List Moment → Bool
passes_by terms (Brings secrets link protocol information) past = is_up_in terms past && is_datagram (brought_by terms (Brings secrets link protocol information) past)
passes_by terms (Gathered secrets packet) past = is_up_in terms past && is_datagram (brought_by terms (Gathered secrets packet) past)
passes_by terms (Carries datagram) past = is_up_in terms past && nat_le (length datagram) (most_in terms past)
passes_by terms _ past = false

-- the datagrams of the peer's that a moment gives
abbrev pub datagram_of : Option Inner → List (List ℕ)
datagram_of None = []
datagram_of (Some i) = if i.protocol == IP then i.information ∷ [] else []

abbrev pub given_by : Terms → Moment → List Moment → List (List ℕ)
given_by terms m past = if is_up_in terms past then datagram_of (brought_by terms m past) else []

abbrev pub given_in : Terms → List Moment → List (List ℕ)
given_in terms [] = []
given_in terms (m ∷ past) = given_in terms past ++ given_by terms m past

-- A datagram came at one of these moments: in a frame of a link that was a member then, or in a packet that was gathered.
abbrev pub CameIn : Terms → List Moment → (datagram : List ℕ) → Type 0
CameIn terms [] datagram = ⊥
CameIn terms (m ∷ past) datagram = (brought_by terms m past ≡ Some (inner IP datagram)) ⊎ CameIn terms past datagram

-- the packets that a moment sends to the peer: IPCP's, and a datagram that passes
abbrev pub packets_of : List Packet → List Inner
packets_of [] = []
packets_of (p ∷ packets) = inner IPCP (laid_packet p) ∷ packets_of packets

abbrev pub sends_by : Terms → Moment → List Moment → List Inner
sends_by terms (Calls call) past = packets_of call.happened.packets
sends_by terms (Carries datagram) past = if passes_by terms (Carries datagram) past then inner IP datagram ∷ [] else []
sends_by terms _ past = []

-- a plain bundle sends each as it is, on its one member
abbrev pub whole_by : Option MemberView → List Inner → List Sending
whole_by None packets = []
whole_by (Some m) [] = []
whole_by (Some m) (i ∷ packets) = sending m.link i.protocol i.information ∷ whole_by (Some m) packets

abbrev pub whole_in : Terms → List Moment → List Sending
whole_in terms [] = []
whole_in terms (m ∷ past) = whole_in terms past ++ whole_by (entered_in past) (sends_by terms m past)

-- in a multilink bundle each is cut, the newest first, over those who are members then; where nobody is, nothing is sent
abbrev pub cuts_by : List MemberView → List Inner → List CutPacket → List CutPacket
cuts_by [] packets cuts = cuts
cuts_by (m ∷ members) [] cuts = cuts
cuts_by (m ∷ members) (i ∷ packets) cuts = cuts_by (m ∷ members) packets (record { packet = packet_of i.protocol i.information; members = m ∷ members } ∷ cuts)

abbrev pub cuts_in : Terms → List Moment → List CutPacket
cuts_in terms [] = []
cuts_in terms (m ∷ past) = cuts_by (views_up_to 16 past) (sends_by terms m past) (cuts_in terms past)

-- what was gathered of another protocol than IPCP's, a datagram's and LCP's is to be rejected by the least member (RFC 1661, section 5.7)
abbrev pub is_refused : ℕ → Bool
is_refused protocol = not (protocol == IPCP || protocol == IP || protocol == LCP)

abbrev pub rejection_by : Option Inner → List MemberView → List Sending
rejection_by None members = []
rejection_by (Some i) [] = []
rejection_by (Some i) (m ∷ members) =
    if is_refused i.protocol then record { link = m.link; protocol = i.protocol; information = take MOST_FRAME i.information; rejected = true } ∷ [] else []

abbrev pub rejects_by : Terms → Moment → List Moment → List Sending
rejects_by terms (Gathered secrets packet) past = rejection_by (brought_by terms (Gathered secrets packet) past) (views_up_to 16 past)
rejects_by terms _ past = []

abbrev pub rejects_in : Terms → List Moment → List Sending
rejects_in terms [] = []
rejects_in terms (m ∷ past) = rejects_in terms past ++ rejects_by terms m past

-- why something is dropped
pub data Drop : Type 0 where
  NotOpen : Drop
  Stranger : Drop
  TooBig : Drop
  BadInner : Drop

abbrev pub counted : Option Drop → UnitCounts → UnitCounts
counted None counts = counts
counted (Some NotOpen) counts = record counts { not_open = one_more counts.not_open }
counted (Some Stranger) counts = record counts { stranger = one_more counts.stranger }
counted (Some TooBig) counts = record counts { too_big = one_more counts.too_big }
counted (Some BadInner) counts = record counts { bad_inner = one_more counts.bad_inner }

-- a datagram of the peer's while IPCP isn't in Opened; what was gathered, where it has no protocol field or is longer than our MRRU
abbrev pub drops_inner : Bool → ℕ → Option Inner → Option Drop
drops_inner up most None = Some BadInner
drops_inner up most (Some i) = if nat_lt most (length i.information) then Some TooBig else if i.protocol == IP && not up then Some NotOpen else None

abbrev pub drops_by : Terms → Moment → List Moment → Option Drop
drops_by terms (Brings secrets link protocol information) past =
    if is_member_in link past then (if protocol == IP && not (is_up_in terms past) then Some NotOpen else None) else Some Stranger
drops_by terms (Gathered secrets packet) past = drops_inner (is_up_in terms past) (most_of_ours terms.mrru) (inner_of packet)
drops_by terms (Carries datagram) past = if is_up_in terms past then (if nat_le (length datagram) (most_in terms past) then None else Some TooBig) else Some NotOpen
drops_by terms _ past = None

-- the counts, of what they were before these moments
abbrev pub counts_in : Terms → (since past : List Moment) → UnitCounts → UnitCounts
counts_in terms [] past counts = counts
counts_in terms (m ∷ since) past counts = counted (drops_by terms m (since ++ past)) (counts_in terms since past counts)

-- what was gathered and not used, as the bundle was closed before, is dropped
abbrev pub left_out : List (List ℕ) → UnitCounts → UnitCounts
left_out [] counts = counts
left_out (packet ∷ left) counts = left_out left (counted (Some NotOpen) counts)

-- WHEN

-- when IPCP last came to Opened
abbrev pub comes_to_up : Terms → IpcpCall → List Moment → Bool
comes_to_up terms call past = is_up_after terms.wish (call ∷ calls_in past) && not (is_up_in terms past)

abbrev pub opened_in : Terms → List Moment → ℕ
opened_in terms [] = 0
opened_in terms (Calls call ∷ past) = if comes_to_up terms call past then call.happened.now else opened_in terms past
opened_in terms (_ ∷ past) = opened_in terms past

-- when the last datagram passed, or IPCP came to Opened after it
abbrev pub passed_in : Terms → List Moment → ℕ
passed_in terms [] = 0
passed_in terms (Calls call ∷ past) = if comes_to_up terms call past then call.happened.now else passed_in terms past
passed_in terms (m ∷ past) = if passes_by terms m past then time_in terms past else passed_in terms past

-- WHY A BUNDLE ENDS

-- whether IPCP was in Opened at some moment
abbrev pub was_up_after : UnitWish → List IpcpCall → Bool
was_up_after wish [] = false
was_up_after wish (call ∷ calls) = is_up_after wish (call ∷ calls) || was_up_after wish calls

-- whether the peer's Terminate-Request has come in Opened
abbrev pub by_peer_after : UnitWish → List IpcpCall → Bool
by_peer_after wish [] = false
by_peer_after wish (call ∷ calls) = (is_up_after wish calls && is_rtr call.happened.event) || by_peer_after wish calls

-- The last call of IPCP told that it has finished.
abbrev pub has_finished_after : List IpcpCall → Bool
has_finished_after [] = false
has_finished_after (call ∷ calls) = has_finished call.happened.acts

-- So many seconds have passed in Opened since a moment, and how many milliseconds that is.
pub record IsOver (terms : Terms) (past : List Moment) (seconds since elapsed : ℕ) : Type 0 where
  pub up : is_up_in terms past ≡ true
  pub some : 0 < seconds
  pub long : seconds * 1000 ≤ time_in terms past - since
  pub elapsed_is : elapsed ≡ min (time_in terms past - since) most_elapsed

-- The reason of each cause; `marks` are those since the bundle was made.
abbrev pub HasReason : Terms → List Moment → (marks : ℕ) → CloseCause → (elapsed : ℕ) → Type 0
HasReason terms past marks Idle elapsed = IsOver terms past terms.wish.idle_s (passed_in terms past) elapsed
HasReason terms past marks ConnectTime elapsed = IsOver terms past terms.wish.maxconnect_s (opened_in terms past) elapsed
HasReason terms past marks IpcpFailed elapsed = (has_finished_after (calls_in past) ≡ true) × (by_peer_after terms.wish (calls_in past) ≡ false)
HasReason terms past marks EndedByPeer elapsed = (has_finished_after (calls_in past) ≡ true) × (by_peer_after terms.wish (calls_in past) ≡ true)
HasReason terms past marks TooManyChanges elapsed = 900 ≤ marks
