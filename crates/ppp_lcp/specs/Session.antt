-- What a session of LCP has come to, by looking back over its calls (RFC 1661, sections 4.6, 5 and 6.4).
use Rattle.std.specs.Int.{to_be_bytes, w32}
use Rattle.std.specs.Prelude.{ℕ, ◌≡◌, ◌+◌, ◌*◌, ◌==◌, ◌&&◌, ◌||◌, min, not, nat_le, Bool, true, false, if◌then◌else◌, Option, Some, None, is_some, option_map, List, [], ◌∷◌, ◌++◌, length, drop}
use Rattle.std.specs.List.{list_any}
use Rattle.ppp_timer.specs.Due.{has_come}
use Rattle.ppp_base.specs.declared.mrru.TheConstants.{DEFAULT_MRU}
use Rattle.ppp_base.specs.declared.code.TheConstants.{CONFIGURE_ACK, ECHO_REPLY, ECHO_REQUEST, PROTOCOL_REJECT}
use Rattle.ppp_base.specs.declared.protocol.TheConstants.{CHAP, IPCP, MULTILINK, PAP}
use Rattle.ppp_fsm.specs.declared.event.FsmEvent.{FsmEvent}
use Rattle.ppp_packet.specs.declared.packet.Packet.{Packet}
use Rattle.ppp_packet.specs.OptionsOf.{Item}
use Rattle.ppp_packet.specs.declared.agreed.Agreed.{Agreed}
use Rattle.ppp_packet.specs.declared.agreed.Method.{Method}
use Rattle.ppp_packet.specs.declared.agreed.Method.TheVariants.{Pap, Chap}
use Rattle.ppp_control.specs.declared.classes.HeardAs.{HeardAs}
use Rattle.ppp_control.specs.declared.classes.HeardAs.TheVariants.{Request as Asks, Ack as Acked, Nak, Reject, Event, Discarded}
use Rattle.ppp_control.specs.OwnPackets.{packet}
use Rattle.ppp_control.specs.Changes.{is_left_out, last_body, names_kind}
use Rattle.ppp_control.specs.Past.{is_open_after, agreement_after, sent_in, last_of, last_request, options_in, next_id_after, restart_after, negotiation_after}
use Rattle.ppp_control.specs.Rules.{Rules, Call, by_itself, ticks, hears, rejects, Called, called_with, Negotiates, happened_in, heard_in, changes_in}
use Rattle.ppp_lcp.specs.declared.lcp.Lcp.{Lcp}
use Rattle.ppp_lcp.specs.declared.out.LcpOut.{LcpOut}
use Rattle.ppp_lcp.specs.declared.wish.LcpWish.{LcpWish}
use Rattle.ppp_lcp.specs.Last.{number2_or, agreed_by}
use Rattle.ppp_lcp.specs.Magic.{cut_information}
use Rattle.ppp_lcp.specs.Ours.{Asked, our_magic, generator_in, word_of}
use Rattle.ppp_lcp.specs.Taking.{ours_of}
use Rattle.ppp_lcp.specs.Table.{number2, number4, judged_where}

-- A call of LCP: of a packet it is told nothing else.
abbrev pub LcpCall : Type 0
LcpCall = Called (Unit {0})

abbrev pub is_open_in : LcpWish → List LcpCall → Bool
is_open_in wish past = is_open_after wish.limits (happened_in past)

-- Our magic number is in force once a request was sent; 0 before.
abbrev pub in_force : Bool → ℕ → ℕ
in_force asked number = if asked then number else 0

abbrev pub magic_in : LcpWish → ℕ → List LcpCall → ℕ
magic_in wish words past = in_force (is_some (last_request (sent_in (happened_in past)))) (our_magic wish words (changes_in true past))

-- whether a number that we have is in front
abbrev pub is_magic : ℕ → List ℕ → Bool
is_magic magic body = not (magic == 0) && number4 body == magic

-- The peer's requests with our own magic number, which has four octets (RFC 1661, section 6.4).
abbrev pub is_four : ℕ → Option (List ℕ) → Bool
is_four magic None = false
is_four magic (Some body) = length body == 4 && number4 body == magic

abbrev pub is_loop : ℕ → List Item → Bool
is_loop magic items = not (magic == 0) && is_four magic (last_body 5 items)

-- Of each request that was heard, the newest first, whether it had our own magic number then.
abbrev pub own_by : ℕ → HeardAs → List Bool
own_by magic (Asks items) = is_loop magic items ∷ []
own_by magic Acked = []
own_by magic (Nak items) = []
own_by magic (Reject items) = []
own_by magic (Event event) = []
own_by magic Discarded = []

abbrev pub own_at : Call (Unit {0}) → LcpWish → ℕ → List LcpCall → List Bool
own_at (by_itself own) wish words past = []
own_at ticks wish words past = []
own_at (hears p a) wish words past = own_by (magic_in wish words past) (heard_in true past p)
own_at (rejects protocol information) wish words past = []

abbrev pub own_requests : LcpWish → ℕ → List LcpCall → List Bool
own_requests wish words [] = []
own_requests wish words (c ∷ past) = own_at c.call wish words past ++ own_requests wish words past

-- how many in a row, from the newest on
abbrev pub in_a_row : List Bool → ℕ
in_a_row [] = 0
in_a_row (true ∷ rest) = in_a_row rest + 1
in_a_row (false ∷ rest) = 0

-- An echo is due so long after the last Echo-Request, or after Opened was entered; in Opened alone.
abbrev pub next_echo : LcpWish → ℕ → Option ℕ
next_echo wish now = if wish.echo_interval_s == 0 then None else Some (now + wish.echo_interval_s * 1000)

abbrev pub sends_echo : List Packet → Bool
sends_echo packets = list_any (λ p. p.code == ECHO_REQUEST) packets

abbrev pub echo_after : LcpWish → List LcpCall → Option ℕ
echo_after wish [] = None
echo_after wish (c ∷ past) =
    if is_open_in wish (c ∷ past)
    then (if sends_echo c.happened.packets || not (is_open_in wish past) then next_echo wish c.happened.now else echo_after wish past)
    else None

-- An Echo-Reply in Opened that isn't our own echo.
abbrev pub is_reply : ℕ → Packet → Bool
is_reply magic p = p.code == ECHO_REPLY && nat_le 4 (length p.body) && not (is_magic magic p.body)

abbrev pub is_reply_by : ℕ → Packet → HeardAs → Bool
is_reply_by magic p (Event event) = is_reply magic p
is_reply_by magic p (Asks items) = false
is_reply_by magic p Acked = false
is_reply_by magic p (Nak items) = false
is_reply_by magic p (Reject items) = false
is_reply_by magic p Discarded = false

abbrev pub is_reply_at : Call (Unit {0}) → LcpWish → ℕ → List LcpCall → Bool
is_reply_at (by_itself own) wish words past = false
is_reply_at ticks wish words past = false
is_reply_at (hears p a) wish words past = is_open_in wish past && is_reply_by (magic_in wish words past) p (heard_in true past p)
is_reply_at (rejects protocol information) wish words past = false

-- How many Echo-Requests were sent since Opened was entered and since the last such reply.
abbrev pub unanswered_in : LcpWish → ℕ → List LcpCall → ℕ
unanswered_in wish words [] = 0
unanswered_in wish words (c ∷ past) =
    if is_open_in wish (c ∷ past) && not (is_open_in wish past) then 0
    else if is_reply_at c.call wish words past then 0
    else if sends_echo c.happened.packets then unanswered_in wish words past + 1
    else unanswered_in wish words past

-- As many as may have gone unanswered: the next echo that is due finds it.
abbrev pub is_lost : LcpWish → ℕ → Bool
is_lost wish count = not (wish.echo_failure == 0) && count == wish.echo_failure

abbrev pub finds_lost : LcpWish → ℕ → List LcpCall → ℕ → Bool
finds_lost wish words past now = has_come now (echo_after wish past) && is_lost wish (min (unanswered_in wish words past) 255)

-- the most octets of a packet to the peer: its MRU in Opened, of at most 1,500, and 1,500 before
abbrev pub mru_in : List Item → ℕ
mru_in theirs = min (number2_or (last_body 1 theirs) DEFAULT_MRU) DEFAULT_MRU

abbrev pub peer_mru_in : List LcpCall → ℕ
peer_mru_in past = mru_in (options_in (last_of CONFIGURE_ACK (sent_in (happened_in past))))

abbrev pub limit_in : LcpWish → List LcpCall → ℕ
limit_in wish past = if is_open_in wish past then peer_mru_in past else DEFAULT_MRU

-- The reply to an Echo-Request has our magic number, and its data behind that.
abbrev pub reply_to : ℕ → Packet → Option (List ℕ)
reply_to magic p = if p.code == ECHO_REQUEST && nat_le 4 (length p.body) then Some (to_be_bytes w32 magic ++ drop 4 p.body) else None

-- The Echo-Request that is due; and in Opened the Protocol-Reject (RFC 1661, sections 5.7 and 5.8).
abbrev pub echo_in : LcpWish → ℕ → List LcpCall → ℕ → List Packet
echo_in wish words past now =
    if has_come now (echo_after wish past)
    then (if is_lost wish (min (unanswered_in wish words past) 255) then [] else packet ECHO_REQUEST (next_id_after (happened_in past)) (to_be_bytes w32 (magic_in wish words past)) ∷ [])
    else []

abbrev pub rejection_in : LcpWish → List LcpCall → ℕ → List ℕ → List Packet
rejection_in wish past protocol information =
    if is_open_in wish past then packet PROTOCOL_REJECT (next_id_after (happened_in past)) (cut_information (peer_mru_in past) protocol information) ∷ [] else []

-- LCP's part of the negotiation. The automaton sends an Echo-Reply in Opened alone. The number that a Nak carries is the generator's next word.
abbrev pub rules : LcpWish → ℕ → Rules (Unit {0})
rules wish words = record {
  is_lcp = true;
  limits = wish.limits;
  restart_ms = wish.restart_s * 1000;
  max_failure = wish.max_failure;
  asks = λ changes. Asked wish words changes;
  judges = λ past a. judged_where wish (wish.multilink && not (is_left_out 17 (changes_in true past))) (magic_in wish words past) (word_of (generator_in wish words (changes_in true past)));
  most_octets = λ past a. limit_in wish past;
  reply = λ past p. reply_to (magic_in wish words past) p;
  at_tick = λ past now. echo_in wish words past now;
  on_reject = λ past protocol information. rejection_in wish past protocol information;
}

-- The session as a whole. Counts stand still at 255.
abbrev pub session_after : LcpWish → ℕ → List LcpCall → Lcp
session_after wish words past = record {
  wish = wish;
  ours = ours_of wish words (changes_in true past);
  core = negotiation_after wish.limits (wish.restart_s * 1000) true (happened_in past);
  loops = min (in_a_row (own_requests wish words past)) 255;
  echo_at = echo_after wish past;
  unanswered = min (unanswered_in wish words past) 255;
}

-- LCP stands for these calls: each is lawful, and it has come to what looking back over them gives.
pub record StandsFor (wish : LcpWish) (words : ℕ) (l : Lcp) (past : List LcpCall) : Type 0 where
  pub negotiates : Negotiates (rules wish words) l.core past
  pub session : l ≡ session_after wish words past

-- A call that told this. A call that has no moment has 0, and takes no time from it.
abbrev pub called : Call (Unit {0}) → ℕ → LcpOut → LcpCall
called call now out = called_with call now out.event out.acts out.packets

-- What is agreed on, in Opened alone: by the last request of ours that the peer acknowledged, and the last of the peer's that we did.
abbrev pub agreed_after : LcpWish → List LcpCall → Option Agreed
agreed_after wish past = option_map (λ both. agreed_by both.ours both.theirs) (agreement_after wish.limits (happened_in past))

-- The moment of the one timer that runs: the restart timer, or in Opened the echo timer.
abbrev pub deadline_after : LcpWish → List LcpCall → Option ℕ
deadline_after wish past = if is_open_in wish past then echo_after wish past else restart_after wish.limits (wish.restart_s * 1000) (happened_in past)

-- The protocols without which the link is of no use: IPCP and multilink, and that of an agreed method.
abbrev pub is_proved_by : ℕ → Option Method → Bool
is_proved_by protocol None = false
is_proved_by protocol (Some Pap) = protocol == PAP
is_proved_by protocol (Some Chap) = protocol == CHAP

abbrev pub is_agreed : ℕ → Option Agreed → Bool
is_agreed protocol None = false
is_agreed protocol (Some agreed) = is_proved_by protocol agreed.we_prove || is_proved_by protocol agreed.peer_proves

abbrev pub is_needed : ℕ → Option Agreed → Bool
is_needed protocol agreed = protocol == IPCP || protocol == MULTILINK || is_agreed protocol agreed

abbrev pub network_refused_by : Option Agreed → Packet → HeardAs → Option ℕ
network_refused_by agreed p (Event event) = if p.code == PROTOCOL_REJECT && nat_le 2 (length p.body) && is_needed (number2 p.body) agreed then Some (number2 p.body) else None
network_refused_by agreed p (Asks items) = None
network_refused_by agreed p Acked = None
network_refused_by agreed p (Nak items) = None
network_refused_by agreed p (Reject items) = None
network_refused_by agreed p Discarded = None

abbrev pub method_refused_by : HeardAs → Bool
method_refused_by (Reject items) = names_kind 3 items
method_refused_by (Asks items) = false
method_refused_by Acked = false
method_refused_by (Nak items) = false
method_refused_by (Event event) = false
method_refused_by Discarded = false

-- What a call tells beside its event, acts and packets: the peer's requests in a row so far with our own magic number; at a tick that is no event, that
-- as many echoes as may be have gone unanswered; the Reject of Authentication-Protocol; and the Protocol-Reject of a protocol without which the link is of no use.
abbrev pub lost_at : Call (Unit {0}) → Option FsmEvent → LcpWish → ℕ → List LcpCall → ℕ → ℕ
lost_at ticks None wish words past now = if finds_lost wish words past now then wish.echo_failure else 0
lost_at ticks (Some event) wish words past now = 0
lost_at (by_itself own) event wish words past now = 0
lost_at (hears p a) event wish words past now = 0
lost_at (rejects protocol information) event wish words past now = 0

abbrev pub auth_refused_at : Call (Unit {0}) → List LcpCall → Bool
auth_refused_at (by_itself own) past = false
auth_refused_at ticks past = false
auth_refused_at (hears p a) past = method_refused_by (heard_in true past p)
auth_refused_at (rejects protocol information) past = false

abbrev pub network_refused_at : Call (Unit {0}) → LcpWish → List LcpCall → Option ℕ
network_refused_at (by_itself own) wish past = None
network_refused_at ticks wish past = None
network_refused_at (hears p a) wish past = network_refused_by (agreed_after wish past) p (heard_in true past p)
network_refused_at (rejects protocol information) wish past = None

pub record Tells (wish : LcpWish) (words : ℕ) (call : Call (Unit {0})) (now : ℕ) (out : LcpOut) (past : List LcpCall) : Type 0 where
  pub loops : out.loops ≡ min (in_a_row (own_requests wish words (called call now out ∷ past))) 255
  pub unanswered : out.unanswered ≡ lost_at call out.event wish words past now
  pub auth_refused : out.auth_refused ≡ auth_refused_at call past
  pub network_refused : out.network_refused ≡ network_refused_at call wish past

-- A call, after whatever calls: LCP stands for them and this one, which tells what looking back says.
abbrev pub Calls : Call (Unit {0}) → ℕ → Lcp → Lcp → LcpOut → Type 0
Calls call now old new out = (wish : LcpWish) (words : ℕ) (past : List LcpCall) → StandsFor wish words old past → StandsFor wish words new (called call now out ∷ past) × Tells wish words call now out past
