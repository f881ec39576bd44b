-- What stands behind each frame: what the machine stands for.
use Rattle.std.proofs.Common.{◌≡◌, Bool, true, false, Option, refl, ap, sym, subst, ◌∙◌}
use Rattle.std.specs.Prelude.{◌&&◌, nat_le, is_some}
use Rattle.ppp_chat.specs.Script.{ChatScript}
use Rattle.ppp_control.specs.Rules.{by_itself, comes_up, opens}
use Rattle.ppp_link_parts.specs.Records.{told}
use Rattle.ppp_link_parts.specs.Talk.{Listens, TalkNow}
use Rattle.ppp_link_rules.specs.declared.limits.TheConstants.{MOST_MARKS}
use Rattle.ppp_link_rules.specs.Authentication.{join_tried}
use Rattle.ppp_link_rules.specs.CauseStatus.{too_many_marks}
use Rattle.ppp_link_rules.specs.Ending.{ended_by}
use Rattle.ppp_link_rules.specs.Hearing.{checked, ended_if_many, has_many, link_opened, looked_after}
use Rattle.ppp_link_rules.specs.LcpCalls.{lcp_called}
use Rattle.ppp_link_rules.specs.LinkState.{Framing, LinkState, Listener}
use Rattle.ppp_link_rules.specs.Marks.{is_session}
use Rattle.ppp_link_core.specs.declared.link_core.LinkCore.{LinkCore}
use Rattle.ppp_link_core.specs.Standing.{Does, Lives, Sits, StandsFor, histories_of, opened, state_of}
use Rattle.ppp_link_core.specs.Told.{frames_heard}
use Rattle.ppp_link_core.proofs.StandFacts.{at_state, lives_after}

pub many_is : {S : Type 0} {c : LinkCore S} {b : Bool} → b ≡ (is_session (told c.records).doing && nat_le MOST_MARKS (told c.records).since) → (s : LinkState) → StandsFor c s → has_many s ≡ b
many_is {c = c} {b = b} e s k = at_state c s (λ y. has_many y ≡ b) k (sym e)

pub many_then : {S : Type 0} {a b : LinkCore S} {many : Bool} → many ≡ true → Does (ended_by too_many_marks) a b → Does (ended_if_many many) a b
many_then {b = b} e d = record { stands = λ s k. subst (λ x. StandsFor b (ended_if_many x s)) (sym e) (d.stands s k) }

pub many_else : {S : Type 0} {a : LinkCore S} {many : Bool} → many ≡ false → Does (ended_if_many many) a a
many_else {a = a} e = record { stands = λ s k. subst (λ x. StandsFor a (ended_if_many x s)) (sym e) k }

pub checked_does : {S : Type 0} {a b : LinkCore S} {many : Bool} → ((s : LinkState) → StandsFor a s → has_many s ≡ many) → Does (ended_if_many many) a b → Does checked a b
checked_does {b = b} h d = record { stands = λ s k. subst (λ x. StandsFor b (ended_if_many x s)) (sym (h s k)) (d.stands s k) }

pub looked_does : {S : Type 0} {a b c : LinkCore S} → Does join_tried a b → Does checked b c → Does looked_after a c
unfolding looked_after
looked_does x y = record { stands = λ s k. y.stands (join_tried s) (x.stands s k) }

pub sits_joined : {S : Type 0} {a b : LinkCore S} → b ≡ record a { records = b.records; up = b.up } → Sits (opened a.lcp) a → Sits (opened b.lcp) b
sits_joined {S = S} {a = a} {b = b} e h = record { none = λ g. ap (λ (x : LinkCore S). is_some x.auth) e ∙ h.none (ap (λ (x : LinkCore S). opened x.lcp) (sym e) ∙ g) }

pub framed_does : {S : Type 0} {c : LinkCore S} {t : TalkNow}
    → ((script : Option ChatScript) (listener : Listener) → Listens script c.talk listener → Listens script t Framing)
    → Does frames_heard c (record c { talk = t })
framed_does {c = c} {t = t} l = record {
  stands = λ s k. record {
    is = at_state c s (λ y. state_of (record c { talk = t }) (histories_of (frames_heard y)) ≡ frames_heard y) k refl;
    id = k.id;
    moment = k.moment;
    asks = k.asks;
    listens = l c.config.script s.listener k.listens;
    negotiates = k.negotiates;
    proves = k.proves;
    dials = k.dials;
    policy = k.policy;
    fits = k.fits;
    passes = k.passes;
  };
}

pub framed_lives : {S : Type 0} {c : LinkCore S} {t : TalkNow}
    → ((script : Option ChatScript) (listener : Listener) → Listens script c.talk listener → Listens script t Framing)
    → Lives c → Lives (record c { talk = t })
framed_lives l lives = lives_after (framed_does l) lives

pub linked_does : {S : Type 0} {a b c d : LinkCore S} → Does frames_heard a b → Does (lcp_called (by_itself opens)) b c → Does (lcp_called (by_itself comes_up)) c d → Does link_opened a d
unfolding link_opened
linked_does x y z = record { stands = λ s k. z.stands (lcp_called (by_itself opens) (frames_heard s)) (y.stands (frames_heard s) (x.stands s k)) }

pub sits_framed : {S : Type 0} {a b : LinkCore S} → b ≡ record a { talk = b.talk } → Sits (opened a.lcp) a → Sits (opened b.lcp) b
sits_framed {S = S} {a = a} {b = b} e h = record { none = λ g. ap (λ (x : LinkCore S). is_some x.auth) e ∙ h.none (ap (λ (x : LinkCore S). opened x.lcp) (sym e) ∙ g) }
