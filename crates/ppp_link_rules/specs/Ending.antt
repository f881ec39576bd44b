-- What ends a session: the first cause is kept, the chat is given up, and LCP is closed. What leaves Opened closes authentication and the stay.
use Rattle.std.specs.Prelude.{ℕ, ◌&&◌, Bool, true, false, Option, None, Some, is_some, ◌∷◌}
use Rattle.ppp_base.specs.declared.hook_target.HookTarget.TheVariants.{Link}
use Rattle.ppp_base.specs.declared.send_settings.TheConstants.{DEFAULT_MAP}
use Rattle.ppp_control.specs.Rules.{Call, by_itself, closes}
use Rattle.ppp_lcp.specs.declared.out.LcpOut.{LcpOut}
use Rattle.ppp_lcp.specs.Session.{called}
use Rattle.ppp_mark.specs.Marks.{cause_mark, lcp_closed_mark, left_mark}
use Rattle.ppp_mark.specs.ScriptLog.{closed_facts, log_closed}
use Rattle.ppp_link_rules.specs.declared.cause.Cause.{Cause}
use Rattle.ppp_link_rules.specs.LinkState.{LinkState, Listener, Nobody, Chatting, Framing, LcpPart, control, is_busy, is_open}
use Rattle.ppp_link_rules.specs.LcpAnswer.{lcp_answer}
use Rattle.ppp_link_rules.specs.Marking.{marked}
use Rattle.ppp_link_rules.specs.Rings.{put_control}
use Rattle.ppp_link_rules.specs.Sending.{packets_sent}
use Rattle.ppp_link_rules.specs.UpValue.{Leaves}

-- THE FIRST CAUSE

abbrev pub given_up : Listener → Listener
given_up Nobody = Nobody
given_up (Chatting calls) = Nobody
given_up Framing = Framing

-- its mark; a chat that runs is given up
unfoldable pub caused : Cause → LinkState → LinkState
caused c s = record (marked (λ time. cause_mark time c.number c.detail (control s).session) s) { listener = given_up s.listener }

-- whether a cause would be the session's first
abbrev pub is_first : Option Cause → LinkState → Bool
is_first c s = is_some c && is_busy s

abbrev pub first_caused_by : Option Cause → Bool → LinkState → LinkState
first_caused_by None first s = s
first_caused_by (Some c) true s = caused c s
first_caused_by (Some c) false s = s

abbrev pub first_caused : Option Cause → LinkState → LinkState
first_caused c s = first_caused_by c (is_busy s) s

-- LCP LEAVES OPENED (RFC 1661, section 4.4, This-Layer-Down)

-- What the peer had proved is over: authentication closes, if it is open, and the script that is due then is started.
abbrev pub auth_closed : LinkState → LinkState
auth_closed s = record s { auth = None; log = log_closed (Link s.id) s.time s.log; scripts = closed_facts s.scripts }

-- The stay is over, if there is one: its Leave is posted.
abbrev pub left_by : Option ℕ → LinkState → LinkState
left_by None s = s
left_by (Some stay) s = record (marked (λ time. left_mark time stay) s) { up = put_control (Leaves stay) s.up }

abbrev pub stay_left : LinkState → LinkState
stay_left s = left_by (control s).stay s

abbrev pub with_map : ℕ → LinkState → LinkState
with_map map s = record s { deframer = record s.deframer { map = map } }

-- its mark, and the default map from the next octet on
abbrev pub closed_marked : LinkState → LinkState
closed_marked s = with_map DEFAULT_MAP (marked (λ time. lcp_closed_mark time (control s).openings) s)

-- LCP has left Opened: authentication and the stay end with it.
unfoldable pub lcp_left : LinkState → LinkState
lcp_left s = stay_left (auth_closed (closed_marked s))

abbrev pub left_if : Bool → LinkState → LinkState
left_if true s = lcp_left s
left_if false s = s

-- LCP IS CLOSED (RFC 1661, section 4.3, Close)

-- the LCP part with one more call
abbrev pub with_call : Call (Unit {0}) → ℕ → LcpOut → LcpPart → LinkState → LinkState
with_call call now out part s = record s { lcp = Some (record part { calls = called call now out ∷ part.calls }) }

-- its packets go out, and authentication and the stay end with Opened
abbrev pub closing : Bool → LcpOut → LcpPart → LinkState → LinkState
closing was_open out part s = left_if was_open (packets_sent out.packets (with_call (by_itself closes) s.time out part s))

abbrev pub closed_part : Option LcpPart → LinkState → LinkState
closed_part None s = s
closed_part (Some part) s = closing (is_open s) (lcp_answer s.wish part.words part.calls (by_itself closes) s.time) part s

unfoldable pub lcp_closed : LinkState → LinkState
lcp_closed s = closed_part s.lcp s

abbrev pub closed_if : Bool → LinkState → LinkState
closed_if true s = lcp_closed s
closed_if false s = s

-- A cause ends the session, unless it has one already, or there is none.
abbrev pub ended_if : Bool → Cause → LinkState → LinkState
ended_if true c s = lcp_closed (caused c s)
ended_if false c s = s

unfoldable pub ended_by : Cause → LinkState → LinkState
ended_by c s = ended_if (is_busy s) c s
