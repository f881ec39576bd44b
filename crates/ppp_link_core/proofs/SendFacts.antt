-- What is sent: the machine stands for the state with it.
use Rattle.std.proofs.Common.{◌≡◌, ℕ, List, refl, ap, sym, subst, ◌∙◌}
use Rattle.ppp_base.specs.RingAfter.{Ring}
use Rattle.ppp_base.specs.declared.send_settings.SendSettings.{SendSettings}
use Rattle.ppp_hdlc.specs.Encoding.{encoding}
use Rattle.ppp_link_rules.specs.LinkState.{LinkState, agreed}
use Rattle.ppp_link_rules.specs.Rings.{put_out}
use Rattle.ppp_link_rules.specs.Sending.{frame_sent, octets_sent, settings_by}
use Rattle.ppp_link_core.specs.declared.link_core.LinkCore.{LinkCore}
use Rattle.ppp_link_core.specs.Standing.{Does, Lives, StandsFor, histories_of, state_of}
use Rattle.ppp_link_core.proofs.StandFacts.{at_state, lives_after}

put_at : {S : Type 0} (c : LinkCore S) (octets : List ℕ) (s : LinkState) → StandsFor c s → StandsFor (record c { out = put_out octets c.out }) (octets_sent octets s)
put_at c octets s k = record {
  is = at_state c s (λ y. state_of (record c { out = put_out octets c.out }) (histories_of (octets_sent octets y)) ≡ octets_sent octets y) k refl;
  id = k.id;
  moment = k.moment;
  asks = k.asks;
  listens = k.listens;
  negotiates = k.negotiates;
  proves = k.proves;
  dials = k.dials;
  policy = k.policy;
  fits = k.fits;
  passes = k.passes;
}

pub sent_does : {S : Type 0} {c : LinkCore S} {settings : SendSettings} {ring : Ring ℕ} (protocol : ℕ) (information : List ℕ)
    → ((s : LinkState) → StandsFor c s → settings_by (agreed s) ≡ settings) → ring ≡ put_out (encoding settings protocol information) c.out
    → Does (frame_sent protocol information) c (record c { out = ring })
unfolding frame_sent
sent_does {c = c} {ring = ring} protocol information is e = record {
  stands = λ s k. subst (λ x. StandsFor (record c { out = ring }) (octets_sent (encoding x protocol information) s)) (sym (is s k)) (rw e (put_at c _ s k));
}

-- So many packets were sent of a list: what is left leads from here to where all lead from the start.
pub record SentTo {S : Type 0} (now : LinkCore S) (s : LinkState) (all left : LinkState → LinkState) : Type 0 where
  pub state : LinkState
  pub stands : StandsFor now state
  pub rest : left state ≡ all s

pub record Sent {S : Type 0} (start now : LinkCore S) (all left : LinkState → LinkState) : Type 0 where
  pub goes : (s : LinkState) → StandsFor start s → SentTo now s all left

pub none_sent : {S : Type 0} (c : LinkCore S) (all : LinkState → LinkState) → Sent c c all all
none_sent c all = record { goes = λ s k. record { state = s; stands = k; rest = refl } }

pub one_sent : {S : Type 0} (start now new : LinkCore S) (one : LinkState → LinkState) (all left more : LinkState → LinkState)
    → Sent start now all more → ((s : LinkState) → more s ≡ left (one s)) → Does one now new → Sent start new all left
one_sent start now new one all left more h e d = record {
  goes = λ s k. let t = h.goes s k in record { state = one t.state; stands = d.stands t.state t.stands; rest = sym (e t.state) ∙ t.rest };
}

pub all_sent : {S : Type 0} (start now : LinkCore S) (all left : LinkState → LinkState) → Sent start now all left → ((s : LinkState) → left s ≡ s) → Does all start now
all_sent start now all left h e = record {
  stands = λ s k. let t = h.goes s k in subst (λ x. StandsFor now x) (sym (e t.state) ∙ t.rest) t.stands;
}

pub record Sends {S : Type 0} (start now : LinkCore S) (all left : LinkState → LinkState) : Type 0 where
  pub sent : Sent start now all left
  pub rest : now ≡ record start { out = now.out }
  pub lives : Lives now

pub rest_on : {S : Type 0} {now new : LinkCore S} (start : LinkCore S) → now ≡ record start { out = now.out } → new ≡ record now { out = new.out } → new ≡ record start { out = new.out }
rest_on {S = S} {new = new} start e f = f ∙ ap (λ (x : LinkCore S). record x { out = new.out }) e

pub sent_lives : {S : Type 0} {c : LinkCore S} {settings : SendSettings} {ring : Ring ℕ} (protocol : ℕ) (information : List ℕ)
    → ((s : LinkState) → StandsFor c s → settings_by (agreed s) ≡ settings) → ring ≡ put_out (encoding settings protocol information) c.out
    → Lives c → Lives (record c { out = ring })
sent_lives protocol information p0 p1 l = lives_after (sent_does protocol information p0 p1) l
