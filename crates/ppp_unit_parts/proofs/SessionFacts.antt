-- A call of IPCP has one lawful answer, which its steps give.
use Rattle.std.proofs.Common.{◌≡◌, ℕ, List, ◌∷◌, refl, ap, sym, ◌∙◌}
use Rattle.ppp_control.specs.declared.negotiation.StepOut.{StepOut}
use Rattle.ppp_control.specs.Past.{automaton_after}
use Rattle.ppp_control.specs.Rules.{Call, IsLawful, opens, comes_up, acts_on, happened_in, sends_on}
use Rattle.ppp_ipcp.specs.declared.ipcp.Ipcp.{Ipcp}
use Rattle.ppp_ipcp.specs.declared.wish.IpWish.{IpWish}
use Rattle.ppp_ipcp.specs.Around.{Around}
use Rattle.ppp_ipcp.specs.Session.{Calls, IpcpCall, called, ip_rules, session_after}
use Rattle.ppp_ipcp.proofs.HeardLemmas.{calls_heard}
use Rattle.ppp_ipcp.proofs.SessionLemmas.{alone_stands, tick_stands}
use Rattle.ppp_unit_parts.specs.declared.live.IpCall.{IpCall}
use Rattle.ppp_unit_parts.specs.declared.live.IpCall.TheVariants.{Opens, ComesUp, Hears, Ticks}
use Rattle.ppp_unit_parts.specs.declared.live.Live.{Live}
use Rattle.ppp_unit_parts.specs.Calls.{call_of, ip_left, ip_tells}
use Rattle.ppp_unit_parts.specs.Live.{SomeSession}

same_out : (wish : IpWish) (past : List IpcpCall) (call : Call Around) (now : ℕ) (one other : StepOut)
    → IsLawful (ip_rules wish) (called call now one) past → IsLawful (ip_rules wish) (called call now other) past → one ≡ other
same_out wish past call now one other a b =
    let e : one.event ≡ other.event = a.event ∙ sym b.event in
    let f : one.acts ≡ other.acts = a.acts ∙ ap (λ x. acts_on (automaton_after wish.limits (happened_in past)) x) e ∙ sym b.acts in
    let g : one.packets ≡ other.packets =
    a.packets ∙ ap (λ x. sends_on (ip_rules wish) past now call x one.acts) e ∙ ap (λ x. sends_on (ip_rules wish) past now call other.event x) f ∙ sym b.packets in
    ap (λ x. record one { event = x }) e ∙ ap (λ x. record one { event = other.event; acts = x }) f ∙ ap (λ x. record other { packets = x }) g

pub exact : (a : Around) (now : ℕ) (call : IpCall) (i : Ipcp) → Calls (call_of a call) now i (ip_left a now call i) (ip_tells a now call i)
exact a now Opens i = λ wish past s. alone_stands wish past now opens i _ _ refl refl s
exact a now ComesUp i = λ wish past s. alone_stands wish past now comes_up i _ _ refl refl s
exact a now (Hears p) i = λ wish past s. calls_heard wish past now p a i _ _ refl refl s
exact a now Ticks i = λ wish past s. tick_stands wish past now i _ _ refl refl s

pub told : (a : Around) (now : ℕ) (call : IpCall) (l : Live) (new : Ipcp) (out : StepOut) → SomeSession l → Calls (call_of a call) now l.ipcp new out
    → out ≡ ip_tells a now call l.ipcp
told a now call l new out session calls =
    let one = calls l.wish.ip session.past session.stands in
    let other = exact a now call l.ipcp l.wish.ip session.past session.stands in
    same_out l.wish.ip session.past (call_of a call) now out (ip_tells a now call l.ipcp) one.negotiates.lawful.0 other.negotiates.lawful.0

pub left : (a : Around) (now : ℕ) (call : IpCall) (l : Live) (new : Ipcp) (out : StepOut) → SomeSession l → Calls (call_of a call) now l.ipcp new out
    → new ≡ ip_left a now call l.ipcp
left a now call l new out session calls =
    let one = calls l.wish.ip session.past session.stands in
    let other = exact a now call l.ipcp l.wish.ip session.past session.stands in
    one.session
    ∙ ap (λ (o : StepOut). session_after l.wish.ip (called (call_of a call) now o ∷ session.past)) (told a now call l new out session calls)
    ∙ sym other.session

pub goes_on : (a : Around) (now : ℕ) (call : IpCall) (l new : Live) (out : StepOut) → SomeSession l → Calls (call_of a call) now l.ipcp new.ipcp out → new.wish ≡ l.wish
    → SomeSession new
goes_on a now call l new out session calls e =
    record { past = called (call_of a call) now out ∷ session.past; stands = rw e (calls l.wish.ip session.past session.stands) }
