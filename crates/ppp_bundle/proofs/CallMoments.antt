-- What a call of IPCP adds to what has happened to a bundle.
use Rattle.std.proofs.Common.{◌≡◌, ℕ, Bool, true, false, Option, None, Some, List, [], ◌∷◌, refl, ap, sym, ◌∙◌, subst}
use Rattle.std.specs.Prelude.{◌==◌, ◌&&◌, ◌||◌, not, if◌then◌else◌}
use Rattle.ppp_base.specs.Mrru.{MrruPair}
use Rattle.ppp_control.specs.declared.negotiation.StepOut.{StepOut}
use Rattle.ppp_control.specs.Rules.{Call}
use Rattle.ppp_ipcp.specs.declared.ipcp.Ipcp.{Ipcp}
use Rattle.ppp_ipcp.specs.Around.{Around}
use Rattle.ppp_ipcp.specs.Object.{agreed_in}
use Rattle.ppp_ipcp.specs.Session.{IpcpCall, StandsFor as IpcpStandsFor, called as ip_called, session_after}
use Rattle.ppp_mark.specs.ScriptLog.{ScriptLogState}
use Rattle.ppp_mp.specs.StandsFor.{GatherNow}
use Rattle.ppp_mp.specs.Schedule.{SendingNow}
use Rattle.ppp_outside.specs.declared.hook_words.HookArgs.{HookArgs}
use Rattle.ppp_secrets.specs.declared.secrets.SecretsPair.{SecretsPair}
use Rattle.ppp_unit_parts.specs.declared.live.IpCall.{IpCall}
use Rattle.ppp_unit_parts.specs.declared.live.Live.{Live}
use Rattle.ppp_unit_parts.specs.declared.member.Member.{Member}
use Rattle.ppp_unit_parts.specs.declared.wish.UnitWish.{UnitWish}
use Rattle.ppp_bundle.specs.History.{Moment, Calls, Terms, asked_in, by_peer_after, calls_in, entered_in, is_up_after, is_up_in, was_up_after}
use Rattle.ppp_bundle.specs.IpCalls.{finished, followed, turned}
use Rattle.ppp_unit_parts.specs.Calls.{args_of, around_of, call_of, has_finished, ip_left, is_rtr, live_left, live_tells, or_none}
use Rattle.ppp_bundle.specs.Lives.{CutsAll, GathersAll, HasMember, Reached}
use Rattle.ppp_bundle.specs.ScriptParts.{opened, shut}
use Rattle.ppp_unit_parts.specs.Pieces.{all_sent, left_by_all}
use Rattle.ppp_bundle.specs.State.{UnitState}
use Rattle.ppp_unit_parts.specs.Live.{is_up}
use Rattle.ppp_bundle.proofs.CallFacts.{all_left, all_sent_is}
use Rattle.ppp_bundle.proofs.PieceMoments.{Sends, cuts_then, left_is}
use Rattle.ppp_bundle.proofs.ViewMoments.{views_are}
use Rattle.ppp_unit_parts.proofs.MemberFacts.{are_members}
use Rattle.ppp_unit_parts.proofs.SessionFacts.{exact}

-- two tests
or_of : (a b : Bool) → a ≡ true → (a || b) ≡ true
or_of true b e = refl
or_of false b e = absurd (cc e)

or_swap : (a b : Bool) → (a || b) ≡ (b || a)
or_swap true true = refl
or_swap true false = refl
or_swap false true = refl
or_swap false false = refl

same_either : {T : Type 0} (b : Bool) (x : T) → (if b then x else x) ≡ x
same_either true x = refl
same_either false x = refl

pub up_is : (terms : Terms) (i : Ipcp) (calls : List IpcpCall) → IpcpStandsFor terms.wish.ip i calls → (i.core.fsm.state == 9) ≡ is_up_after terms.wish calls
up_is terms i calls stands = ap (λ (x : Ipcp). x.core.fsm.state == 9) stands.session

was_up : (wish : UnitWish) (calls : List IpcpCall) → is_up_after wish calls ≡ true → was_up_after wish calls ≡ true
was_up wish [] e = absurd (let f : false ≡ true = e in cc)
was_up wish (c ∷ calls) e = or_of (is_up_after wish (c ∷ calls)) (was_up_after wish calls) e

-- IP opens or closes
abbrev pub at_turn : {T : Type 0} → Bool → Bool → T → T → T
at_turn false false new old = old
at_turn false true new old = new
at_turn true false new old = old
at_turn true true new old = old

abbrev pub live_turned : Bool → Bool → ℕ → Live → Live
live_turned was is time l = record l { was_open = at_turn was is true l.was_open; opened_at = at_turn was is time l.opened_at; passed_at = at_turn was is time l.passed_at }

abbrev pub scripts_turned : {S : Type 0} → Bool → Bool → HookArgs → ℕ → ScriptLogState S → ScriptLogState S
scripts_turned false false args time s = s
scripts_turned false true args time s = opened args time s
scripts_turned true false args time s = shut time s
scripts_turned true true args time s = s

abbrev pub args_then : ℕ → Live → HookArgs
args_then unit l = args_of unit (or_none (agreed_in l.ipcp)) l

turned_is : {S : Type 0} (was is : Bool) (w : UnitState S) (l : Live)
    → turned was is (record w { live = Some l }) ≡ record w { scripts = scripts_turned was is (args_then w.unit l) w.time w.scripts; live = Some (live_turned was is w.time l) }
turned_is false false w l = refl
turned_is false true w l = refl
turned_is true false w l = refl
turned_is true true w l = refl

pub target_turned : {S : Type 0} (was is : Bool) (args : HookArgs) (time : ℕ) (s : ScriptLogState S) → (scripts_turned was is args time s).machine.target ≡ s.machine.target
target_turned false false args time s = refl
target_turned false true args time s = refl
target_turned true false args time s = refl
target_turned true true args time s = refl

-- a unit of which IPCP was called, before it may be at its end
abbrev pub turned_unit : {S : Type 0} → Bool → Live → StepOut → UnitState S → UnitState S
turned_unit was l out u = record u {
  scripts = scripts_turned was (is_up l) (args_then u.unit l) u.time u.scripts;
  live = Some (live_turned was (is_up l) u.time (record l { pieces = (left_by_all l out.packets).pieces }));
  sent = all_sent l out.packets u.sent;
}

pub followed_is : {S : Type 0} (was : Bool) (l : Live) (out : StepOut) (u : UnitState S)
    → followed was l out u ≡ finished (has_finished out.acts) l.by_peer (turned_unit was l out u)
followed_is {S = S} was l out u =
    let w : UnitState S = record u { sent = all_sent l out.packets u.sent } in
    ap (λ (v : UnitState S). finished (has_finished out.acts) l.by_peer (turned was (is_up l) v))
    (all_sent_is out.packets u l u.sent ∙ ap (λ (x : Live). record w { live = Some x }) (all_left out.packets l))
    ∙ ap (λ (v : UnitState S). finished (has_finished out.acts) l.by_peer v) (turned_is was (is_up l) w (record l { pieces = (left_by_all l out.packets).pieces }))

-- what was reached
abbrev pub call_made : SecretsPair → ℕ → IpCall → Live → IpcpCall
call_made secrets time call l = ip_called (call_of (around_of secrets l) call) time (live_tells secrets time call l)

turned_open : (was is ever : Bool) → (was ≡ true → ever ≡ true) → at_turn was is true ever ≡ (is || ever)
turned_open false false ever g = refl
turned_open false true ever g = refl
turned_open true false ever g = refl
turned_open true true ever g = g refl

opened_is : (was is up told ever : Bool) → is ≡ up → told ≡ ever → (was ≡ true → ever ≡ true) → at_turn was is true told ≡ (up || ever)
opened_is was is up told ever e f g = ap (λ (b : Bool). at_turn was is true b) f ∙ turned_open was is ever g ∙ ap (λ (b : Bool). b || ever) e

turned_at : (was is : Bool) (time old : ℕ) → at_turn was is time old ≡ (if is && not was then time else old)
turned_at false false time old = refl
turned_at false true time old = refl
turned_at true false time old = refl
turned_at true true time old = refl

at_is : (was is before up : Bool) (time old kept : ℕ) → was ≡ before → is ≡ up → old ≡ kept → at_turn was is time old ≡ (if up && not before then time else kept)
at_is was is before up time old kept e f g = turned_at was is time old ∙ ap (λ (n : ℕ). if is && not was then time else n) g
    ∙ ap (λ (b : Bool). if b && not was then time else kept) f ∙ ap (λ (b : Bool). if up && not b then time else kept) e

peer_is : (told ever up up' rtr : Bool) → told ≡ ever → up ≡ up' → (told || (up && rtr)) ≡ ((up' && rtr) || ever)
peer_is told ever up up' rtr e f = ap (λ (b : Bool). b || (up && rtr)) e ∙ ap (λ (b : Bool). ever || (b && rtr)) f ∙ or_swap ever (up' && rtr)

gathers_call : (m : Option MrruPair) (gather : GatherNow) (c : IpcpCall) (past : List Moment) (left : List (List ℕ)) → GathersAll m gather past left → GathersAll m gather (Calls c ∷ past) left
gathers_call None gather c past left g = g
gathers_call (Some mrru) gather c past left g = g

some_call : (m : Option MrruPair) (members : List Member) (c : IpcpCall) (past : List Moment) → HasMember m members past → HasMember m members (Calls c ∷ past)
some_call None members c past h = h
some_call (Some mrru) members c past h = h

-- what is known of a bundle that was reached, as it sends
pub reached_sends : (terms : Terms) (past : List Moment) (time : ℕ) (gather : GatherNow) (left : List (List ℕ)) (l : Live) → Reached terms time gather l past left → Sends terms.mrru l past
reached_sends terms past time gather left l r = record {
  mrru = r.mrru;
  some = r.some;
  views = views_are l.members past r.in_order r.members;
  lawful = are_members 0 l.members r.in_order;
}

-- a call changes nothing of it
pub sends_left : (terms : Terms) (past : List Moment) (secrets : SecretsPair) (time : ℕ) (call : IpCall) (l : Live) → Sends terms.mrru l past → Sends terms.mrru (live_left secrets time call l) past
sends_left terms past secrets time call l s = record { mrru = s.mrru; some = s.some; views = s.views; lawful = s.lawful }

-- the bundle after a call and what it sends
abbrev pub live_sent : SecretsPair → ℕ → IpCall → Live → Live
live_sent secrets time call l =
    let l1 = live_left secrets time call l in record l1 { pieces = (left_by_all l1 (live_tells secrets time call l).packets).pieces }

pub reached_call : (terms : Terms) (past : List Moment) (secrets : SecretsPair) (call : IpCall) (rest : List (Call Around)) (time : ℕ) (gather : GatherNow) (left : List (List ℕ)) (l : Live)
    → Reached terms time gather l past left → asked_in terms past ≡ call_of (around_of secrets l) call ∷ rest
    → (entered_in past ≡ None → ip_left (around_of secrets l) time call l.ipcp ≡ session_after terms.wish.ip [])
    → Reached terms time gather (live_turned (is_up l) (is_up (live_left secrets time call l)) time (live_sent secrets time call l)) (Calls (call_made secrets time call l) ∷ past) left
reached_call terms past secrets call rest time gather left l r asked quiet =
    let c : IpcpCall = call_made secrets time call l in
    let stands = exact (around_of secrets l) time call l.ipcp terms.wish.ip (calls_in past) r.ipcp in
    let was = up_is terms l.ipcp (calls_in past) r.ipcp in
    let is = up_is terms (ip_left (around_of secrets l) time call l.ipcp) (c ∷ calls_in past) stands in
    record {
      order = (record { rest = rest; asked = asked; now = r.time_is }, r.order);
      ipcp = stands;
      gathers = gathers_call terms.mrru gather c past left r.gathers;
      cuts = subst (λ (n : SendingNow). CutsAll terms terms.mrru n (Calls c ∷ past)) (sym (ap (λ (x : Live). x.pieces) (left_is (live_tells secrets time call l).packets (live_left secrets time call l))))
          (cuts_then terms past terms.mrru (Calls c) (live_left secrets time call l) (sends_left terms past secrets time call l (reached_sends terms past time gather left l r)) r.cuts);
      members = r.members;
      in_order = r.in_order;
      some = some_call terms.mrru l.members c past r.some;
      initial = quiet;
      time_is = r.time_is;
      wish = r.wish;
      allow = r.allow;
      mrru = r.mrru;
      was_open = opened_is (is_up l) (is_up (live_left secrets time call l)) (is_up_after terms.wish (c ∷ calls_in past)) l.was_open (was_up_after terms.wish (calls_in past)) is r.was_open
          (λ e. was_up terms.wish (calls_in past) (sym was ∙ e));
      by_peer = peer_is l.by_peer (by_peer_after terms.wish (calls_in past)) (is_up l) (is_up_in terms past) (is_rtr (live_tells secrets time call l).event) r.by_peer was;
      opened_at = at_is (is_up l) (is_up (live_left secrets time call l)) (is_up_in terms past) (is_up_after terms.wish (c ∷ calls_in past)) time l.opened_at _ was is r.opened_at;
      passed_at = at_is (is_up l) (is_up (live_left secrets time call l)) (is_up_in terms past) (is_up_after terms.wish (c ∷ calls_in past)) time l.passed_at _ was is r.passed_at;
    }
