-- What follows where a link's machine goes, and what an event leaves that isn't a second begin.
use Rattle.std.proofs.Common.{◌≡◌, ◌≤◌, ◌+◌, ℕ, true, false, ap, sym, subst, arith}
use Rattle.ppp_mark.specs.Log.{LogState, room_of}
use Rattle.ppp_mark.specs.ScriptLog.{Grows}
use Rattle.ppp_link_core.specs.declared.link_core.LinkCore.{LinkCore}
use Rattle.ppp_link_core.specs.Standing.{Does, Lives, Sits, StandsFor, opened}
use Rattle.ppp_link_facts.proofs.LinkFacts.{link_event_stands, link_has_room}
use Rattle.ppp_link_facts.specs.Budget.{owed}
use Rattle.ppp_link_rules.specs.LinkEvent.{Event}
use Rattle.ppp_link_rules.specs.LinkPart.{after, after_unless, happened, is_nothing, is_present}
use Rattle.ppp_link_rules.specs.LinkState.{LinkState}
use Rattle.ppp_link_rules.specs.Sessions.{at_end}
use Rattle.ppp_link_steps.specs.Calm.{Calm, IsCalm}
use Rattle.ppp_link_events.specs.Going.{Goes, IsGoing, Takes}

pub goes_lives : {S : Type 0} {c : LinkCore S} → Goes c → Lives c
goes_lives g = record { state = g.state; stands = g.going.stands }

with_owed : (a b : ℕ) → 64 + a ≤ b → 64 ≤ b
with_owed a b h = omega (arith, h)

pub goes_room : {S : Type 0} {c : LinkCore S} → Goes c → 64 ≤ room_of c.records.scripts.log
goes_room g =
    subst (λ (l : LogState). 64 ≤ room_of l) (ap (λ (y : LinkState). y.log) (sym g.going.stands.is))
    (with_owed (owed g.state) (room_of g.state.log) (link_has_room g.state g.going.holds).room)

-- behind a call that marks so much, so much is left
pub room_after : {old new : LogState} → 64 ≤ room_of old → (most left : ℕ) → Grows most old new → most + left ≤ 64 → left ≤ room_of new
room_after h most left g le = omega (arith, h, g.few, g.longer, g.same_limit, le)

pub calm_does : {S : Type 0} {a b : LinkCore S} {rule : LinkState → LinkState} → ((s : LinkState) → IsCalm s → IsCalm (rule s)) → Does rule a b → Calm a → Calm b
calm_does {rule = rule} h d calm = record { state = rule calm.state; stands = d.stands calm.state calm.stands; calm = h calm.state calm.calm }

pub after_is : (event : Event) (s : LinkState) → is_nothing event s ≡ false → after event s ≡ at_end (happened event s)
unfolding after
after_is event s e = ap (λ b. after_unless b event s) e

pub after_nothing : (event : Event) (s : LinkState) → is_nothing event s ≡ true → after event s ≡ s
unfolding after
after_nothing event s e = ap (λ b. after_unless b event s) e

pub goes_on : {S : Type 0} {b c : LinkCore S} (event : Event) (s : LinkState) → IsGoing b s → is_present event s ≡ true → is_nothing event s ≡ false
    → StandsFor c (at_end (happened event s)) → IsGoing c (after event s)
goes_on {c = c} event s k is n h = record { stands = subst (StandsFor c) (sym (after_is event s n)) h; holds = link_event_stands event s is k.holds }

pub takes_by : {S : Type 0} {a b c : LinkCore S} (event : Event) → ((s : LinkState) → is_nothing event s ≡ false)
    → Does (happened event) a b → Does at_end b c → Takes event a c
takes_by event n x y = record { leaves = λ s k is. goes_on event s k is (n s) (y.stands (happened event s) (x.stands s k.stands)) }

pub goes_by : {S : Type 0} {a c : LinkCore S} (event : Event) (g : Goes a) → Takes event a c → is_present event g.state ≡ true → Sits (opened c.lcp) c → Calm c → Goes c
goes_by event g t is sits calm = record { state = after event g.state; going = t.leaves g.state g.going is; sits = sits; calm = calm }
