-- What a session of IPCP has come to, by looking back over its calls (RFC 1661, sections 4 and 5; RFC 1332, sections 2 and 3).
use Rattle.std.specs.Prelude.{ℕ, ◌≡◌, ◌*◌, false, Option, None, option_map, List, [], ◌∷◌}
use Rattle.ppp_control.specs.declared.negotiation.StepOut.{StepOut}
use Rattle.ppp_control.specs.Past.{agreement_after, restart_after, negotiation_after}
use Rattle.ppp_control.specs.Rules.{Rules, Call, Called, called_with, Negotiates, happened_in, changes_in}
use Rattle.ppp_ipcp.specs.declared.addresses.Addresses.{Addresses}
use Rattle.ppp_ipcp.specs.declared.ipcp.Ipcp.{Ipcp}
use Rattle.ppp_ipcp.specs.declared.wish.IpWish.{IpWish}
use Rattle.ppp_ipcp.specs.Address.{judged_where}
use Rattle.ppp_ipcp.specs.Agreed.{agreed_by}
use Rattle.ppp_ipcp.specs.Around.{Around}
use Rattle.ppp_ipcp.specs.Ours.{our_local, Asked}
use Rattle.ppp_ipcp.specs.Taking.{ours_of}

abbrev pub IpcpCall : Type 0
IpcpCall = Called Around

-- IPCP's part of the negotiation: the codes 8 and above are unknown, and nothing is sent but what the automaton sends.
abbrev pub ip_rules : IpWish → Rules Around
ip_rules wish = record {
  is_lcp = false;
  limits = wish.limits;
  restart_ms = wish.restart_s * 1000;
  max_failure = wish.max_failure;
  asks = λ changes. Asked wish changes;
  judges = λ past a. judged_where wish a.allow a.secrets;
  most_octets = λ past a. a.mru;
  reply = λ past p. None;
  at_tick = λ past now. [];
  on_reject = λ past protocol information. [];
}

-- The session as a whole.
abbrev pub session_after : IpWish → List IpcpCall → Ipcp
session_after wish past = record {
  wish = wish;
  ours = ours_of wish (changes_in false past);
  core = negotiation_after wish.limits (ip_rules wish).restart_ms false (happened_in past);
}

-- IPCP stands for these calls: each is lawful, and it has come to what looking back over them gives.
pub record StandsFor (wish : IpWish) (i : Ipcp) (past : List IpcpCall) : Type 0 where
  pub negotiates : Negotiates (ip_rules wish) i.core past
  pub session : i ≡ session_after wish past

-- a call that told this
abbrev pub called : Call Around → ℕ → StepOut → IpcpCall
called call now out = called_with call now out.event out.acts out.packets

-- A call, after whatever calls: IPCP stands for them and this one.
abbrev pub Calls : Call Around → ℕ → Ipcp → Ipcp → StepOut → Type 0
Calls call now old new out = (wish : IpWish) (past : List IpcpCall) → StandsFor wish old past → StandsFor wish new (called call now out ∷ past)

-- The addresses of both ends, in Opened alone: by the last request of ours that the peer acknowledged, and the last of the peer's that we did.
abbrev pub agreed_after : IpWish → List IpcpCall → Option Addresses
agreed_after wish past = option_map (λ both. agreed_by wish (our_local wish (changes_in false past)) both.ours both.theirs) (agreement_after wish.limits (happened_in past))

-- The moment of the restart timer, while it runs.
abbrev pub deadline_after : IpWish → List IpcpCall → Option ℕ
deadline_after wish past = restart_after wish.limits (ip_rules wish).restart_ms (happened_in past)
