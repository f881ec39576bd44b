-- The calls of a bundle's IPCP (RFC 1332): what each leaves of the bundle, and what it tells.
use Rattle.std.specs.Prelude.{ℕ, ◌||◌, ◌&&◌, Bool, true, false, Option, None, Some, List, []}
use Rattle.std.specs.List.{list_any}
use Rattle.ppp_control.specs.Class.{heard_as}
use Rattle.ppp_control.specs.Rules.{Call, by_itself, opens, comes_up, ticks, hears}
use Rattle.ppp_control.specs.declared.negotiation.StepOut.{StepOut}
use Rattle.ppp_fsm.specs.declared.acts.Act.{Act}
use Rattle.ppp_fsm.specs.declared.acts.Act.TheVariants.{Tlf}
use Rattle.ppp_fsm.specs.declared.event.FsmEvent.{FsmEvent}
use Rattle.ppp_fsm.specs.declared.event.FsmEvent.TheVariants.{Open, Up, Rtr}
use Rattle.ppp_ipcp.specs.declared.addresses.Addresses.{Addresses}
use Rattle.ppp_ipcp.specs.declared.ipcp.Ipcp.{Ipcp}
use Rattle.ppp_ipcp.specs.Address.{no_address}
use Rattle.ppp_ipcp.specs.Around.{Around, around}
use Rattle.ppp_ipcp.specs.Steps.{event_left, event_told, heard_left, heard_told, ticked, ticked_told}
use Rattle.ppp_outside.specs.declared.hook_words.HookArgs.{HookArgs}
use Rattle.ppp_secrets.specs.declared.secrets.SecretsPair.{SecretsPair}
use Rattle.ppp_unit_parts.specs.declared.live.IpCall.{IpCall}
use Rattle.ppp_unit_parts.specs.declared.live.IpCall.TheVariants.{Opens, ComesUp, Hears, Ticks}
use Rattle.ppp_unit_parts.specs.declared.live.Live.{Live}
use Rattle.ppp_unit_parts.specs.Live.{is_up, most_to_peer}

-- a call, as IPCP's history has it
abbrev pub call_of : Around → IpCall → Call Around
call_of a Opens = by_itself opens
call_of a ComesUp = by_itself comes_up
call_of a (Hears p) = hears p a
call_of a Ticks = ticks

-- what a call leaves of IPCP, and what it tells
abbrev pub ip_left : Around → ℕ → IpCall → Ipcp → Ipcp
ip_left a now Opens i = event_left Open now i
ip_left a now ComesUp i = event_left Up now i
ip_left a now (Hears p) i = heard_left i a p now (heard_as i.core.is_lcp i.core.request p)
ip_left a now Ticks i = ticked i now

abbrev pub ip_tells : Around → ℕ → IpCall → Ipcp → StepOut
ip_tells a now Opens i = event_told Open now i
ip_tells a now ComesUp i = event_told Up now i
ip_tells a now (Hears p) i = heard_told i a p now (heard_as i.core.is_lcp i.core.request p)
ip_tells a now Ticks i = ticked_told i now

-- The peer's Terminate-Request.
abbrev pub is_rtr : Option FsmEvent → Bool
is_rtr (Some Rtr) = true
is_rtr _ = false

-- This layer has finished (RFC 1661, section 4.4).
abbrev pub is_tlf : Act → Bool
is_tlf Tlf = true
is_tlf _ = false

abbrev pub has_finished : List Act → Bool
has_finished acts = list_any is_tlf acts

-- what IPCP is told of a packet
abbrev pub around_of : SecretsPair → Live → Around
around_of secrets l = around l.allow secrets (most_to_peer l)

abbrev pub live_tells : SecretsPair → ℕ → IpCall → Live → StepOut
live_tells secrets now call l = ip_tells (around_of secrets l) now call l.ipcp

-- The bundle after a call. A Terminate-Request that comes in Opened begins its end.
abbrev pub live_left : SecretsPair → ℕ → IpCall → Live → Live
live_left secrets now call l = record l {
  ipcp = ip_left (around_of secrets l) now call l.ipcp;
  by_peer = l.by_peer || (is_up l && is_rtr (live_tells secrets now call l).event);
}

-- what the scripts of an opening are told (pppd(8), "Scripts")
abbrev pub or_none : Option Addresses → Addresses
or_none None = record { local = no_address; remote = no_address }
or_none (Some addresses) = addresses

abbrev pub args_of : ℕ → Addresses → Live → HookArgs
args_of unit a l = record { unit = unit; device = l.wish.device; peer = []; local = a.local; remote = a.remote; param = l.wish.param }
