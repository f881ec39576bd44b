-- The session's line ends: what the machine stands for behind each piece.
use Rattle.std.proofs.Common.{◌≡◌, Bool, true, false, Option, Some, refl, ap, sym, subst, ◌∙◌}
use Rattle.std.specs.Prelude.{◌&&◌, is_some, not}
use Rattle.ppp_chat.specs.Script.{ChatScript}
use Rattle.ppp_control.specs.Rules.{by_itself, goes_down}
use Rattle.ppp_link_parts.specs.Records.{told}
use Rattle.ppp_link_parts.specs.Talk.{Listens, TalkNow}
use Rattle.ppp_link_rules.specs.declared.cause.Cause.{Cause}
use Rattle.ppp_link_rules.specs.Ending.{closed_if, first_caused}
use Rattle.ppp_link_rules.specs.LcpCalls.{lcp_called}
use Rattle.ppp_link_rules.specs.LinkState.{LinkState, Listener, Nobody, is_busy, is_lasting}
use Rattle.ppp_link_rules.specs.Marks.{is_session}
use Rattle.ppp_link_rules.specs.Sessions.{line_gone, line_gone_if, line_lost, with_line_ended}
use Rattle.ppp_link_core.specs.declared.link_core.LinkCore.{LinkCore}
use Rattle.ppp_link_core.specs.Standing.{Does, Lives, Sits, StandsFor, histories_of, opened, state_of}
use Rattle.ppp_link_core.proofs.StandFacts.{at_state, lives_after}
use Rattle.ppp_link_steps.proofs.CalmLemmas.{calm_keeps}
use Rattle.ppp_link_steps.proofs.DialFacts.{calm_does}
use Rattle.ppp_link_steps.proofs.HearLemmas.{lost_keeps}
use Rattle.ppp_link_steps.specs.Calm.{Calm}

pub ended_does : {S : Type 0} {c : LinkCore S} {t : TalkNow}
    → ((script : Option ChatScript) (listener : Listener) → Listens script c.talk listener → Listens script t Nobody)
    → Does with_line_ended c (record c { line_ended = true; talk = t })
ended_does {c = c} {t = t} l = record {
  stands = λ s k. record {
    is = at_state c s (λ y. state_of (record c { line_ended = true; talk = t }) (histories_of (with_line_ended y)) ≡ with_line_ended y) k refl;
    id = k.id;
    moment = k.moment;
    asks = k.asks;
    listens = l c.config.script s.listener k.listens;
    negotiates = k.negotiates;
    proves = k.proves;
    dials = k.dials;
    policy = k.policy;
    fits = k.fits;
    passes = k.passes;
  };
}

pub ended_lives : {S : Type 0} {c : LinkCore S} {t : TalkNow}
    → ((script : Option ChatScript) (listener : Listener) → Listens script c.talk listener → Listens script t Nobody)
    → Lives c → Lives (record c { line_ended = true; talk = t })
ended_lives h l = lives_after (ended_does h) l

pub gone_does : {S : Type 0} {a b c d e : LinkCore S} (x : Cause) {first : Bool}
    → ((s : LinkState) → StandsFor a s → is_busy s ≡ first) → Does with_line_ended a b → Does (first_caused (Some x)) b c
    → Does (lcp_called (by_itself goes_down)) c d → Does (closed_if first) d e → Does (line_gone x) a e
gone_does {e = e} x is f g h i = record {
  stands = λ s k.
      let t = i.stands (lcp_called (by_itself goes_down) (first_caused (Some x) (with_line_ended s))) (h.stands (first_caused (Some x) (with_line_ended s)) (g.stands (with_line_ended s) (f.stands s k))) in
      subst (λ y. StandsFor e (closed_if y (lcp_called (by_itself goes_down) (first_caused (Some x) (with_line_ended s))))) (sym (is s k)) t;
}

pub sits_gone : {S : Type 0} {a b c : LinkCore S} → b ≡ record a { line_ended = b.line_ended; talk = b.talk } → c ≡ record b { records = c.records; talk = c.talk } → Sits (opened a.lcp) a → Sits (opened c.lcp) c
sits_gone {S = S} {a = a} {b = b} {c = c} e f h =
    let lcp : c.lcp ≡ a.lcp = ap (λ (x : LinkCore S). x.lcp) f ∙ ap (λ (x : LinkCore S). x.lcp) e in
    let auth : c.auth ≡ a.auth = ap (λ (x : LinkCore S). x.auth) f ∙ ap (λ (x : LinkCore S). x.auth) e in
    record { none = λ g. ap is_some auth ∙ h.none (ap opened (sym lcp) ∙ g) }

pub gone_then : {S : Type 0} {a b : LinkCore S} (x : Cause) {lost : Bool} → lost ≡ true → Does (line_gone x) a b → Does (line_gone_if lost x) a b
gone_then {b = b} x e d = record { stands = λ s k. subst (λ y. StandsFor b (line_gone_if y x s)) (sym e) (d.stands s k) }

pub gone_else : {S : Type 0} {a : LinkCore S} (x : Cause) {lost : Bool} → lost ≡ false → Does (line_gone_if lost x) a a
gone_else {a = a} x e = record { stands = λ s k. subst (λ y. StandsFor a (line_gone_if y x s)) (sym e) k }

pub lost_does : {S : Type 0} {a b : LinkCore S} (x : Cause) {lasting lost : Bool} → lasting ≡ is_session (told a.records).doing → lost ≡ (lasting && not a.line_ended) → Does (line_gone_if lost x) a b → Does (line_lost x) a b
unfolding line_lost
lost_does {a = a} {b = b} x f e d = record {
  stands = λ s k. subst (λ y. StandsFor b (line_gone_if y x s)) (e ∙ ap (λ y. y && not a.line_ended) f ∙ ap (λ (y : LinkState). is_lasting y && not y.line_ended) k.is) (d.stands s k);
}

pub lost_calm : {S : Type 0} {a b : LinkCore S} (x : Cause) → Does (line_lost x) a b → Calm a → Calm b
lost_calm x d calm = calm_does (λ s c. calm_keeps (lost_keeps x s) c) d calm
