-- A link that hasn't begun is whole, and the log of each keeps the law of scripts.
use Rattle.std.proofs.Common.{arith, refl, ap, sym, subst, ◌∙◌, ◌≡◌, ℕ, ◌+◌, ◌<◌, ◌≤◌, ◌^◌, not, Option, None, Some}
use Rattle.ppp_hooks.specs.HookState.{WasHandedIn}
use Rattle.ppp_lcp.specs.declared.wish.LcpWish.{LcpWish}
use Rattle.ppp_mark.specs.Log.{LogState}
use Rattle.ppp_mark.specs.Scripts.{LogLaw}
use Rattle.ppp_option_words.specs.LinkValues.{LinkValues}
use Rattle.ppp_outside.specs.Dialer.{DialerState}
use Rattle.ppp_outside.specs.Line.{LineState}
use Rattle.ppp_secrets.specs.declared.secrets.SecretsPair.{SecretsPair}
use Rattle.ppp_link_core.specs.declared.link_core.LinkCore.{LinkCore}
use Rattle.ppp_link_core.specs.Standing.{StandsFor}
use Rattle.ppp_link_events.specs.Going.{Goes, IsGoing}
use Rattle.ppp_link_facts.proofs.LinkFacts.{link_scripts_follow}
use Rattle.ppp_link_rules.specs.declared.errand.Errand.{Errand}
use Rattle.ppp_link_rules.specs.Facts.{ScriptsFollow}
use Rattle.ppp_link_rules.specs.LinkState.{LinkState, is_out, is_waiting}
use Rattle.ppp_link_rules.specs.NewLink.{new_link}
use Rattle.ppp_link_rules.specs.Wishes.{IsWish}
use Rattle.ppp_link.specs.declared.body.LinkBody.{LinkBody}
use Rattle.ppp_link.specs.Link.{IsWhole}
use Rattle.ppp_link.proofs.KeepFacts.{Tried, counts_to, dial_is, dials_is, failed_is, reading_is, writing_is}

none_tried : {D : Type 0} (f : D → DialerState) (d : D) → (f d).tries < 2 ^ 63 → Tried f d 0 0
none_tried f d h = record { tries = omega arith; since_half = h; faults = omega arith }

new_by : {D I O S : Type 0} {f : D → DialerState} {g : I → LineState} {c : LinkCore S} {id seed limit : ℕ} {config : LinkValues} {secrets : SecretsPair} {wish : LcpWish} (d : D)
    → StandsFor c (new_link id config wish secrets seed limit) → Goes c → (f d).tries < 2 ^ 63
    → IsWhole f g (let l : LinkBody D I O S = record { core = c; dialer = Some d; input = None; output = None; given = 0 } in l)
new_by {f = f} d k goes h = record {
  goes = goes;
  dialer = ap (λ (e : Errand). not (is_out e)) (sym (dial_is k));
  input = ap is_waiting (sym (reading_is k));
  output = ap is_waiting (sym (writing_is k));
  counts = counts_to (Tried f) (Some d) (sym (dials_is k)) (sym (failed_is k)) (none_tried f d h);
  given = tt;
}

pub new_whole : {D I O S : Type 0} {f : D → DialerState} {g : I → LineState} {c : LinkCore S} {id seed limit : ℕ} {config : LinkValues} {secrets : SecretsPair} {wish : LcpWish} (d : D)
    → IsWish config wish → ((w : LcpWish) → IsWish config w → IsGoing c (new_link id config w secrets seed limit)) → Goes c → (f d).tries < 2 ^ 63
    → IsWhole f g (let l : LinkBody D I O S = record { core = c; dialer = Some d; input = None; output = None; given = 0 } in l)
new_whole {wish = wish} d asks going goes h = new_by d (going wish asks).stands goes h

pub follows : {S : Type 0} {c : LinkCore S} (s : LinkState) → IsGoing c s → ScriptsFollow s
follows s k = link_scripts_follow s k.holds

pub log_law : {S : Type 0} {c : LinkCore S} {log : LogState} → log ≡ c.records.scripts.log → Goes c → LogLaw 0 log.past
log_law {log = log} e goes =
    let s : LinkState = goes.state in
    subst (λ (x : LogState). LogLaw 0 x.past) (ap (λ (y : LinkState). y.log) (sym goes.going.stands.is) ∙ sym e) (link_scripts_follow s goes.going.holds).law
