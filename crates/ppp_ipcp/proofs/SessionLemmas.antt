-- A call leaves what looking back over it gives.
use Rattle.std.proofs.Common.{◌≡◌, ℕ, Bool, true, false, cond, Option, Some, None, List, [], ◌∷◌, ◌++◌, refl, ap, sym, ◌∙◌, subst}
use Rattle.std.specs.Prelude.{option_map}
use Rattle.ppp_fsm.specs.declared.event.FsmEvent.{FsmEvent}
use Rattle.ppp_fsm.specs.declared.event.FsmEvent.TheVariants.{Timeout}
use Rattle.ppp_fsm.specs.Fsm.{acts_of}
use Rattle.ppp_control.specs.declared.negotiation.Negotiation.{Negotiation}
use Rattle.ppp_control.specs.declared.negotiation.StepOut.{StepOut}
use Rattle.ppp_control.specs.Changes.{Change}
use Rattle.ppp_control.specs.Given.{Given}
use Rattle.ppp_control.specs.Past.{Agreement}
use Rattle.ppp_control.specs.Rules.{Alone, event_of, Call, by_itself, ticks, changes_by, changes_in, event_in, comes_with, aside}
use Rattle.ppp_control.specs.Start.{is_due, agreement}
use Rattle.ppp_control.specs.Step.{stepped, step_sends}
use Rattle.ppp_control.proofs.AgreementLemmas.{agreement_so}
use Rattle.ppp_control.proofs.RulesLemmas.{steps_so, quiet_so}
use Rattle.ppp_ipcp.specs.declared.ipcp.Ipcp.{Ipcp}
use Rattle.ppp_ipcp.specs.declared.ours.IpOurs.{IpOurs}
use Rattle.ppp_ipcp.specs.declared.wish.IpWish.{IpWish}
use Rattle.ppp_ipcp.specs.Agreed.{agreed_by}
use Rattle.ppp_ipcp.specs.Around.{Around}
use Rattle.ppp_ipcp.specs.Object.{agreed_in}
use Rattle.ppp_ipcp.specs.Ours.{our_local}
use Rattle.ppp_ipcp.specs.Session.{IpcpCall, ip_rules, StandsFor, called, agreed_after}
use Rattle.ppp_ipcp.specs.Steps.{plain, ip_told, nothing_told, event_left, event_told, ticked, ticked_told}
use Rattle.ppp_ipcp.specs.Taking.{ours_of}

-- with the same parts it is the same
same_ip : (a b : Ipcp) → a.wish ≡ b.wish → a.ours ≡ b.ours → a.core ≡ b.core → a ≡ b
same_ip a b e1 e2 e3 =
    ap (λ (x : IpWish). record a { wish = x }) e1
    ∙ ap (λ (x : IpOurs). record a { wish = b.wish; ours = x }) e2
    ∙ ap (λ (x : Negotiation). record b { core = x }) e3

-- an event, where our options are already what looking back over it gives
pub step_stands : (wish : IpWish) (past : List IpcpCall) (now : ℕ) (call : Call Around) (event : FsmEvent) (g : Given) (i : Ipcp) (o : IpOurs) → StandsFor wish i past
    → event_in (ip_rules wish) past now call ≡ Some event → g ≡ comes_with (ip_rules wish) past now event call
    → o ≡ ours_of wish (changes_by false call (step_sends g event i.core) past ++ changes_in false past)
    → StandsFor wish (record i { ours = o; core = stepped g event i.core }) (called call now (ip_told event g i) ∷ past)
step_stands wish past now call event g i o s is comes ours =
    let m = steps_so (ip_rules wish) past i.core now call event g s.negotiates is comes in
    record {
      negotiates = record { state = m.state; acked = m.acked; lawful = m.lawful };
      session = same_ip _ _ (ap (λ (x : Ipcp). x.wish) s.session) ours m.state;
    }

-- a call at which nothing happens
pub quiet_stands : (wish : IpWish) (past : List IpcpCall) (now : ℕ) (call : Call Around) (i : Ipcp) → StandsFor wish i past
    → event_in (ip_rules wish) past now call ≡ None → aside (ip_rules wish) past now call ≡ [] → changes_by false call [] past ≡ []
    → StandsFor wish i (called call now nothing_told ∷ past)
quiet_stands wish past now call i s none quiet same =
    let m = quiet_so (ip_rules wish) past i.core now call s.negotiates none quiet in
    record {
      negotiates = record { state = m.state; acked = m.acked; lawful = m.lawful };
      session = same_ip _ _ (ap (λ (x : Ipcp). x.wish) s.session) (ap (λ (x : Ipcp). x.ours) s.session ∙ ap (λ (changes : List Change). ours_of wish (changes ++ changes_in false past)) (sym same)) m.state;
    }

-- an event that comes with no packet
pub alone_stands : (wish : IpWish) (past : List IpcpCall) (now : ℕ) (own : Alone) (i new : Ipcp) (out : StepOut)
    → new ≡ event_left (event_of own) now i → out ≡ event_told (event_of own) now i
    → StandsFor wish i past → StandsFor wish new (called (by_itself own) now out ∷ past)
alone_stands wish past now own i new out left told s =
    subst (λ (x : Ipcp). StandsFor wish x (called (by_itself own) now out ∷ past)) (sym left)
    (subst (λ (x : StepOut). StandsFor wish (event_left (event_of own) now i) (called (by_itself own) now x ∷ past)) (sym told)
    (step_stands wish past now (by_itself own) (event_of own) (plain i (event_of own) now) i i.ours s refl (ap (λ (x : Ipcp). plain x (event_of own) now) s.session) (ap (λ (x : Ipcp). x.ours) s.session)))

-- a tick
abbrev at_tick : Bool → ℕ → Ipcp → StepOut
at_tick due now i = record { event = cond due (Some Timeout) None; acts = cond due (acts_of i.core.fsm Timeout) []; packets = cond due (step_sends (plain i Timeout now) Timeout i.core) [] }

by_timer : (due : Bool) (wish : IpWish) (past : List IpcpCall) (now : ℕ) (i : Ipcp) → StandsFor wish i past → event_in (ip_rules wish) past now ticks ≡ cond due (Some Timeout) None
    → StandsFor wish (record i { core = cond due (stepped (plain i Timeout now) Timeout i.core) i.core }) (called ticks now (at_tick due now i) ∷ past)
by_timer true wish past now i s e = step_stands wish past now ticks Timeout (plain i Timeout now) i i.ours s e (ap (λ (x : Ipcp). plain x Timeout now) s.session) (ap (λ (x : Ipcp). x.ours) s.session)
by_timer false wish past now i s e = quiet_stands wish past now ticks i s e refl refl

pub tick_stands : (wish : IpWish) (past : List IpcpCall) (now : ℕ) (i new : Ipcp) (out : StepOut)
    → new ≡ ticked i now → out ≡ ticked_told i now → StandsFor wish i past → StandsFor wish new (called ticks now out ∷ past)
tick_stands wish past now i new out left told s =
    subst (λ (x : Ipcp). StandsFor wish x (called ticks now out ∷ past)) (sym left)
    (subst (λ (x : StepOut). StandsFor wish (ticked i now) (called ticks now x ∷ past)) (sym told)
    (by_timer (is_due i.core now) wish past now i s (ap (λ (x : Ipcp). cond (is_due x.core now) (Some Timeout) None) (sym s.session))))

-- What is told as agreed is what both ends acknowledged last.
pub agreed_same : (wish : IpWish) (i : Ipcp) (past : List IpcpCall) → StandsFor wish i past → agreed_in i ≡ agreed_after wish past
agreed_same wish i past s =
    ap (λ (x : Ipcp). option_map (λ (both : Agreement). agreed_by x.wish x.ours.local both.ours both.theirs) (agreement i.core)) s.session
    ∙ ap (λ (found : Option Agreement). option_map (λ (both : Agreement). agreed_by wish (our_local wish (changes_in false past)) both.ours both.theirs) found) (agreement_so (ip_rules wish) i.core past s.negotiates)
