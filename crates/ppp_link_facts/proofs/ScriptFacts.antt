-- What is proved of a link's scripts: each octet and each event keep it, a new link has it, and the law of scripts follows.
use Rattle.std.proofs.Common.{◌≡◌, ℕ, Bool, true, false, Option, None, Some, List, refl, sym, ◌∙◌, subst}
use Rattle.std.specs.Prelude.{◌&&◌, is_some, if◌then◌else◌}
use Rattle.std.proofs.lemmas.Bool.{false≢true}
use Rattle.ppp_auth.specs.Judged.{judge_lost, judge_outcome, judged_in}
use Rattle.ppp_auth.specs.Outcome.{passed_by, peer_passed}
use Rattle.ppp_auth.specs.Phase.{name_of}
use Rattle.ppp_auth.specs.Setting.{PhaseAt, Setting}
use Rattle.ppp_auth.specs.declared.outcome.AuthNow.TheVariants as stands
use Rattle.ppp_hooks.proofs.Places.{law_of_past, settled_of_past}
use Rattle.ppp_lcp.specs.declared.wish.LcpWish.{LcpWish}
use Rattle.ppp_mark.specs.Scripts.{LogSettled, said_in}
use Rattle.ppp_option_words.specs.LinkValues.{LinkValues}
use Rattle.ppp_packet.specs.declared.agreed.Method.{Method}
use Rattle.ppp_packet.specs.declared.agreed.Method.TheVariants.{Pap, Chap}
use Rattle.ppp_packet.specs.declared.auth_out.AuthOutcome.{AuthOutcome}
use Rattle.ppp_packet.specs.declared.auth_out.AuthOutcome.TheVariants.{Waiting, Passed, Refused, Unanswered}
use Rattle.ppp_secrets.specs.declared.secrets.SecretsPair.{SecretsPair}
use Rattle.ppp_link_rules.specs.Facts.{ScriptsFollow, is_proved, is_protocol_open, peer_of}
use Rattle.ppp_link_rules.specs.Hearing.{octet_taken, octets_taken}
use Rattle.ppp_link_rules.specs.LinkEvent.{Event}
use Rattle.ppp_link_rules.specs.LinkPart.{LinkPart, after, after_if, is_present}
use Rattle.ppp_link_rules.specs.LinkState.{AuthPart, LinkState, control, has_passed, is_open}
use Rattle.ppp_link_rules.specs.NewLink.{new_link}
use Rattle.ppp_link_facts.specs.Budget.{BetweenOctets, BetweenSteps, Stands}
use Rattle.ppp_link_facts.specs.Scripts.{ScriptsStand}
use Rattle.ppp_link_facts.proofs.Room.{mid_of}
use Rattle.ppp_link_facts.proofs.ScriptEvents.{after_says, octet_says, octets_says}
use Rattle.ppp_link_facts.proofs.ScriptVoice.{Says, voice}
use Rattle.ppp_link_facts.proofs.Sight.{SitsNow, sight}

pub says_of : (s : LinkState) → ScriptsStand s → Says (voice s)
says_of s k = record { stands = k.stands; directions = k.directions; named = k.named }

pub stand_of : (s : LinkState) → Says (voice s) → ScriptsStand s
stand_of s k = record { stands = k.stands; directions = k.directions; named = k.named }

sits_of : (s : LinkState) → Stands s → SitsNow (sight s)
sits_of s k = record { phase = k.phase; stay = k.stay; auth = k.auth }

-- WHAT IS KEPT

pub each_octet_stands : (octet : ℕ) (s : LinkState) → BetweenOctets s → ScriptsStand s → ScriptsStand (octet_taken octet s)
each_octet_stands octet s k h = stand_of (octet_taken octet s) (octet_says octet s (sits_of s k.stands) (says_of s h))

pub all_octets_stand : (octets : List ℕ) (s : LinkState) → BetweenOctets s → ScriptsStand s → ScriptsStand (octets_taken octets s)
all_octets_stand octets s k h = stand_of (octets_taken octets s) (octets_says octets s (sits_of s k.stands) (says_of s h))

pub each_event_stands : (event : Event) (s : LinkState) → is_present event s ≡ true → BetweenSteps s → ScriptsStand s → ScriptsStand (after event s)
each_event_stands event s is k h = stand_of (after event s) (after_says event s is (mid_of s k.stands k.budget) (says_of s h))

by_present : (b : Bool) (event : Event) (s : LinkState) → is_present event s ≡ b → BetweenSteps s → ScriptsStand s → ScriptsStand (after_if b event s)
by_present true event s e k h = each_event_stands event s e k h
by_present false event s e k h = h

pub each_step_stands : (event : Event) (old new : LinkState) (taken : Bool) → LinkPart old event new taken → BetweenSteps old → ScriptsStand old → ScriptsStand new
each_step_stands event old new taken part k h = subst ScriptsStand (sym part.left) (by_present taken event old (sym part.told) k h)

pub new_stands : (id seed limit : ℕ) (config : LinkValues) (wish : LcpWish) (secrets : SecretsPair) → ScriptsStand (new_link id config wish secrets seed limit)
new_stands id seed limit config wish secrets = record {
  stands = record { keeps = record { now_open = refl; last = refl; greatest = refl; starts = refl; ends = refl; not_started = refl; lawful = tt }; settled = λ e. tt };
  directions = tt;
  named = refl;
}

-- WHO HAS PROVED ITSELF HAS A NAME

by_outcome : (method : Method) (o : AuthOutcome) → has_passed (passed_by method o) ≡ is_some (name_of (passed_by method o))
by_outcome Pap Waiting = refl
by_outcome Pap (Passed name line) = refl
by_outcome Pap (Refused name) = refl
by_outcome Pap (Unanswered times) = refl
by_outcome Chap Waiting = refl
by_outcome Chap (Passed name line) = refl
by_outcome Chap (Refused name) = refl
by_outcome Chap (Unanswered times) = refl

unless_lost : (b : Bool) (method : Method) (o : AuthOutcome) → has_passed (if b then stands.Going else passed_by method o) ≡ is_some (name_of (if b then stands.Going else passed_by method o))
unless_lost true method o = refl
unless_lost false method o = by_outcome method o

by_method : (m : Option Method) (s : Setting) (past : List PhaseAt) → (is_some m && has_passed (peer_passed m s past)) ≡ is_some (name_of (peer_passed m s past))
by_method None s past = refl
by_method (Some method) s past = unless_lost (judge_lost (Some method) s past) method (judge_outcome method s (judged_in method s past))

proved_named : (o : Option AuthPart) → is_proved o ≡ is_some (peer_of o)
proved_named None = refl
proved_named (Some part) = by_method part.setting.peer_proves part.setting part.calls

no_peer : (o : Option AuthPart) → is_some o ≡ false → is_some (peer_of o) ≡ false
no_peer None e = refl
no_peer (Some part) e = absurd (false≢true (sym e))

open_named : (b : Bool) (s : LinkState) → is_open s ≡ b → Stands s → is_some (peer_of s.auth) ≡ (b && is_proved s.auth)
open_named true s e k = sym (proved_named s.auth)
open_named false s e k = no_peer s.auth (k.phase e)

-- An opening of authentication stands exactly where the protocol is open.
pub auth_tells : (s : LinkState) → Stands s → ScriptsStand s → is_some (control s).auth_open ≡ is_protocol_open s
auth_tells s k h = h.named ∙ open_named (is_open s) s refl k

-- THE LAW OF SCRIPTS

pub scripts_follow : (s : LinkState) → Stands s → ScriptsStand s → ScriptsFollow s
scripts_follow s k h = record {
  law = record { directions = h.directions; law = law_of_past (said_in s.log.past) h.stands.keeps.lawful };
  settled = subst (λ (b : Bool). LogSettled s.log.past b) (auth_tells s k h) (settled_of_past (said_in s.log.past) h.stands.settled);
}
