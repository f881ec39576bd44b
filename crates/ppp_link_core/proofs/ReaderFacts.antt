-- What the machine shows of itself is so of the state that it stands for.
use Rattle.std.proofs.Common.{◌≡◌, ℕ, Bool, Option, None, Some, List, refl, ap, sym, subst, ◌∙◌}
use Rattle.std.specs.Prelude.{◌==◌, ◌&&◌, is_none}
use Rattle.ppp_base.specs.declared.send_settings.TheConstants.{DEFAULT_MAP}
use Rattle.ppp_packet.specs.declared.agreed.Agreed.{Agreed}
use Rattle.ppp_lcp.specs.declared.lcp.Lcp.{Lcp}
use Rattle.ppp_lcp.specs.declared.wish.LcpWish.{LcpWish}
use Rattle.ppp_lcp.specs.Last.{IsInRange}
use Rattle.ppp_lcp.specs.Session.{LcpCall, StandsFor as IsLcp, agreed_after}
use Rattle.ppp_auth.specs.Outcome.{outcome_in}
use Rattle.ppp_auth.specs.Phase.{StandsFor as IsPhase, setting_of}
use Rattle.ppp_auth.specs.Setting.{PhaseAt}
use Rattle.ppp_auth.specs.declared.outcome.AuthNow.{AuthNow}
use Rattle.ppp_auth.specs.declared.outcome.AuthNow.TheVariants.{Going}
use Rattle.ppp_auth.specs.declared.phase.AuthPhase.{AuthPhase}
use Rattle.ppp_link_parts.specs.Records.{told}
use Rattle.ppp_link_rules.specs.LinkState.{AuthPart, LcpPart, LinkState, agreed, agreed_by, has_passed, is_busy, is_open, lcp_state, outcome_of, state_in}
use Rattle.ppp_link_rules.specs.Marks.{is_session}
use Rattle.ppp_link_rules.specs.Sending.{map_by, plain_settings, settings_by}
use Rattle.ppp_link_core.specs.declared.link_core.LinkCore.{LinkCore}
use Rattle.ppp_link_core.specs.Standing.{AuthStands, LcpStands, Lives, StandsFor}
use Rattle.ppp_link_core.proofs.StandFacts.{at_state}

lcp_at : {S : Type 0} (c : LinkCore S) (o : Option Lcp) (s : LinkState) → c.lcp ≡ o → StandsFor c s → LcpStands s.wish o s.lcp
lcp_at c o s e k = subst (λ x. LcpStands s.wish x s.lcp) e k.negotiates

auth_at : {S : Type 0} (c : LinkCore S) (o : Option AuthPhase) (s : LinkState) → c.auth ≡ o → StandsFor c s → AuthStands o s.auth
auth_at c o s e k = subst (λ x. AuthStands x s.auth) e k.proves

no_state : (wish : LcpWish) (o : Option LcpPart) → LcpStands wish None o → state_in wish o ≡ 0
no_state wish None h = refl
no_state wish (Some part) h = absurd h

some_state : (wish : LcpWish) (l : Lcp) (o : Option LcpPart) → LcpStands wish (Some l) o → state_in wish o ≡ l.core.fsm.state
some_state wish l None h = absurd h
some_state wish l (Some part) h = sym (ap (λ (x : Lcp). x.core.fsm.state) h.session)

pub state_none : {S : Type 0} {c : LinkCore S} → c.lcp ≡ None → (s : LinkState) → StandsFor c s → lcp_state s ≡ 0
state_none {c = c} e s k = no_state s.wish s.lcp (lcp_at c None s e k)

pub state_some : {S : Type 0} {c : LinkCore S} {l : Lcp} → c.lcp ≡ Some l → (s : LinkState) → StandsFor c s → lcp_state s ≡ l.core.fsm.state
state_some {c = c} {l = l} e s k = some_state s.wish l s.lcp (lcp_at c (Some l) s e k)

pub opened_by : {S : Type 0} {c : LinkCore S} {n : ℕ} → ((s : LinkState) → StandsFor c s → lcp_state s ≡ n) → (s : LinkState) → StandsFor c s → is_open s ≡ (n == 9)
opened_by h s k = ap (λ m. m == 9) (h s k)

nothing_agreed : (wish : LcpWish) (o : Option LcpPart) → LcpStands wish None o → agreed_by wish o ≡ None
nothing_agreed wish None h = refl
nothing_agreed wish (Some part) h = absurd h

some_agreed : (wish : LcpWish) (l : Lcp) (a : Option Agreed) (o : Option LcpPart) → LcpStands wish (Some l) o
    → ((w : LcpWish) (words : ℕ) (past : List LcpCall) → IsLcp w words l past → a ≡ agreed_after w past) → agreed_by wish o ≡ a
some_agreed wish l a None h told = absurd h
some_agreed wish l a (Some part) h told = sym (told wish part.words part.calls h)

pub agreed_none : {S : Type 0} {c : LinkCore S} → c.lcp ≡ None → (s : LinkState) → StandsFor c s → agreed s ≡ None
agreed_none {c = c} e s k = nothing_agreed s.wish s.lcp (lcp_at c None s e k)

pub agreed_some : {S : Type 0} {c : LinkCore S} {l : Lcp} {a : Option Agreed} → c.lcp ≡ Some l
    → ((w : LcpWish) (words : ℕ) (past : List LcpCall) → IsLcp w words l past → a ≡ agreed_after w past) → (s : LinkState) → StandsFor c s → agreed s ≡ a
agreed_some {c = c} {l = l} {a = a} e told s k = some_agreed s.wish l a s.lcp (lcp_at c (Some l) s e k) told

in_range : (wish : LcpWish) (l : Lcp) (a : Option Agreed) (o : Option LcpPart) → LcpStands wish (Some l) o
    → ((w : LcpWish) (words : ℕ) (past : List LcpCall) → IsLcp w words l past → IsInRange a) → IsInRange a
in_range wish l a None h r = absurd h
in_range wish l a (Some part) h r = r wish part.words part.calls h

pub range_some : {S : Type 0} {c : LinkCore S} {l : Lcp} (a : Option Agreed) → c.lcp ≡ Some l
    → ((w : LcpWish) (words : ℕ) (past : List LcpCall) → IsLcp w words l past → IsInRange a) → Lives c → IsInRange a
range_some {c = c} {l = l} a e r lives = in_range lives.state.wish l a lives.state.lcp (lcp_at c (Some l) lives.state e lives.stands) r

pub settings_some : {S : Type 0} {c : LinkCore S} {o : Option Agreed} {a : Agreed} → ((s : LinkState) → StandsFor c s → agreed s ≡ o) → o ≡ Some a
    → (s : LinkState) → StandsFor c s → settings_by (agreed s) ≡ a.send
settings_some h e s k = ap settings_by (h s k ∙ e)

pub settings_none : {S : Type 0} {c : LinkCore S} {o : Option Agreed} → ((s : LinkState) → StandsFor c s → agreed s ≡ o) → o ≡ None
    → (s : LinkState) → StandsFor c s → settings_by (agreed s) ≡ plain_settings
settings_none h e s k = ap settings_by (h s k ∙ e)

pub map_some : {S : Type 0} {c : LinkCore S} {o : Option Agreed} {a : Agreed} → ((s : LinkState) → StandsFor c s → agreed s ≡ o) → o ≡ Some a
    → (s : LinkState) → StandsFor c s → map_by (agreed s) ≡ a.receive_map
map_some h e s k = ap map_by (h s k ∙ e)

pub map_none : {S : Type 0} {c : LinkCore S} {o : Option Agreed} → ((s : LinkState) → StandsFor c s → agreed s ≡ o) → o ≡ None
    → (s : LinkState) → StandsFor c s → map_by (agreed s) ≡ DEFAULT_MAP
map_none h e s k = ap map_by (h s k ∙ e)

no_outcome : (o : Option AuthPart) → AuthStands None o → outcome_of o ≡ Going
no_outcome None h = refl
no_outcome (Some part) h = absurd h

some_outcome : (p : AuthPhase) (now : AuthNow) (o : Option AuthPart) → AuthStands (Some p) o → ((past : List PhaseAt) → IsPhase p past → now ≡ outcome_in (setting_of p) past) → outcome_of o ≡ now
some_outcome p now None h told = absurd h
some_outcome p now (Some part) h told = sym (told part.calls h.0 ∙ ap (λ x. outcome_in x part.calls) h.1)

pub outcome_none : {S : Type 0} {c : LinkCore S} → c.auth ≡ None → (s : LinkState) → StandsFor c s → outcome_of s.auth ≡ Going
outcome_none {c = c} e s k = no_outcome s.auth (auth_at c None s e k)

pub outcome_some : {S : Type 0} {c : LinkCore S} {p : AuthPhase} {now : AuthNow} → c.auth ≡ Some p
    → ((past : List PhaseAt) → IsPhase p past → now ≡ outcome_in (setting_of p) past) → (s : LinkState) → StandsFor c s → outcome_of s.auth ≡ now
outcome_some {c = c} {p = p} {now = now} e told s k = some_outcome p now s.auth (auth_at c (Some p) s e k) told

pub passed_is : {S : Type 0} {c : LinkCore S} {now : AuthNow} → ((s : LinkState) → StandsFor c s → outcome_of s.auth ≡ now)
    → (s : LinkState) → StandsFor c s → has_passed (outcome_of s.auth) ≡ has_passed now
passed_is h s k = ap has_passed (h s k)

pub busy_is : {S : Type 0} {c : LinkCore S} {b : Bool} → b ≡ (is_session (told c.records).doing && is_none (told c.records).cause)
    → (s : LinkState) → StandsFor c s → is_busy s ≡ b
busy_is {c = c} {b = b} e s k = at_state c s (λ y. is_busy y ≡ b) k (sym e)
