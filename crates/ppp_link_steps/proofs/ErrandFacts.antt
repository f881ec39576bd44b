-- Errands come back: what the machine stands for behind each piece.
use Rattle.std.proofs.Common.{◌≡◌, ℕ, refl, ap, sym, subst, ◌∙◌}
use Rattle.std.specs.Prelude.{is_some}
use Rattle.ppp_link_rules.specs.declared.errand.Errand.TheVariants.{Waiting}
use Rattle.ppp_link_rules.specs.declared.errand.ReadEnd.{ReadEnd}
use Rattle.ppp_link_rules.specs.declared.errand.ReadEnd.TheVariants as read
use Rattle.ppp_link_rules.specs.declared.errand.SentEnd.{SentEnd}
use Rattle.ppp_link_rules.specs.declared.errand.SentEnd.TheVariants as sent
use Rattle.ppp_link_rules.specs.CauseStatus.{line_ended, read_failed, write_failed}
use Rattle.ppp_link_rules.specs.LinkPart.{reading_back, writing_back}
use Rattle.ppp_link_rules.specs.LinkState.{LinkState}
use Rattle.ppp_link_rules.specs.Sessions.{line_lost}
use Rattle.ppp_link_core.specs.declared.link_core.LinkCore.{LinkCore}
use Rattle.ppp_link_core.specs.Standing.{Does, Lives, Sits, StandsFor, histories_of, opened, state_of}
use Rattle.ppp_link_core.proofs.StandFacts.{at_state, lives_after}
use Rattle.ppp_link_steps.proofs.CalmLemmas.{Keeps, calm_keeps, keeps, keeps_same, keeps_then}
use Rattle.ppp_link_steps.proofs.DialFacts.{calm_does}
use Rattle.ppp_link_steps.proofs.HearLemmas.{lost_keeps}
use Rattle.ppp_link_steps.specs.Calm.{Calm}
use Rattle.ppp_link_steps.specs.Back.{reading_come, with_reading_in, with_writing_in, writing_come}

pub read_does : {S : Type 0} {c : LinkCore S} → Does with_reading_in c (record c { reading = Waiting })
read_does {c = c} = record {
  stands = λ s k. record {
    is = at_state c s (λ y. state_of (record c { reading = Waiting }) (histories_of (with_reading_in y)) ≡ with_reading_in y) k refl;
    id = k.id;
    moment = k.moment;
    asks = k.asks;
    listens = k.listens;
    negotiates = k.negotiates;
    proves = k.proves;
    dials = k.dials;
    policy = k.policy;
    fits = k.fits;
    passes = k.passes;
  };
}

pub read_lives : {S : Type 0} {c : LinkCore S} → Lives c → Lives (record c { reading = Waiting })
read_lives l = lives_after read_does l

pub written_does : {S : Type 0} {c : LinkCore S} → Does with_writing_in c (record c { writing = Waiting })
written_does {c = c} = record {
  stands = λ s k. record {
    is = at_state c s (λ y. state_of (record c { writing = Waiting }) (histories_of (with_writing_in y)) ≡ with_writing_in y) k refl;
    id = k.id;
    moment = k.moment;
    asks = k.asks;
    listens = k.listens;
    negotiates = k.negotiates;
    proves = k.proves;
    dials = k.dials;
    policy = k.policy;
    fits = k.fits;
    passes = k.passes;
  };
}

pub written_lives : {S : Type 0} {c : LinkCore S} → Lives c → Lives (record c { writing = Waiting })
written_lives l = lives_after written_does l

pub back_end : {S : Type 0} {a b : LinkCore S} {how : ReadEnd} → how ≡ read.End → Does (line_lost line_ended) a b → Does (reading_back how) a b
back_end {b = b} e d = record { stands = λ s k. subst (λ y. StandsFor b (reading_back y s)) (sym e) (d.stands s k) }

pub back_failed : {S : Type 0} {a b : LinkCore S} {how : ReadEnd} → how ≡ read.Failed → Does (line_lost read_failed) a b → Does (reading_back how) a b
back_failed {b = b} e d = record { stands = λ s k. subst (λ y. StandsFor b (reading_back y s)) (sym e) (d.stands s k) }

pub back_left : {S : Type 0} {a : LinkCore S} {how : ReadEnd} → how ≡ read.Left → Does (reading_back how) a a
back_left {a = a} e = record { stands = λ s k. subst (λ y. StandsFor a (reading_back y s)) (sym e) k }

pub sent_all : {S : Type 0} {a : LinkCore S} {how : SentEnd} → how ≡ sent.All → Does (writing_back how) a a
sent_all {a = a} e = record { stands = λ s k. subst (λ y. StandsFor a (writing_back y s)) (sym e) k }

pub sent_failed : {S : Type 0} {a b : LinkCore S} {how : SentEnd} {count : ℕ} → how ≡ sent.Failed count → Does (line_lost write_failed) a b → Does (writing_back how) a b
sent_failed {b = b} e d = record { stands = λ s k. subst (λ y. StandsFor b (writing_back y s)) (sym e) (d.stands s k) }

pub reading_does : {S : Type 0} {a b c : LinkCore S} (how : ReadEnd) → Does with_reading_in a b → Does (reading_back how) b c → Does (reading_come how) a c
reading_does how x y = record { stands = λ s k. y.stands (with_reading_in s) (x.stands s k) }

pub writing_does : {S : Type 0} {a b c : LinkCore S} (how : SentEnd) → Does with_writing_in a b → Does (writing_back how) b c → Does (writing_come how) a c
writing_does how x y = record { stands = λ s k. y.stands (with_writing_in s) (x.stands s k) }

pub sits_read : {S : Type 0} {a b : LinkCore S} → b ≡ record a { reading = b.reading } → Sits (opened a.lcp) a → Sits (opened b.lcp) b
sits_read {S = S} {a = a} {b = b} e h = record { none = λ g. ap (λ (x : LinkCore S). is_some x.auth) e ∙ h.none (ap (λ (x : LinkCore S). opened x.lcp) (sym e) ∙ g) }

pub sits_written : {S : Type 0} {a b : LinkCore S} → b ≡ record a { writing = b.writing } → Sits (opened a.lcp) a → Sits (opened b.lcp) b
sits_written {S = S} {a = a} {b = b} e h = record { none = λ g. ap (λ (x : LinkCore S). is_some x.auth) e ∙ h.none (ap (λ (x : LinkCore S). opened x.lcp) (sym e) ∙ g) }

reading_back_keeps : (how : ReadEnd) (s : LinkState) → Keeps s (reading_back how s)
reading_back_keeps read.End s = lost_keeps line_ended s
reading_back_keeps read.Failed s = lost_keeps read_failed s
reading_back_keeps read.Left s = keeps s

writing_back_keeps : (how : SentEnd) (s : LinkState) → Keeps s (writing_back how s)
writing_back_keeps sent.All s = keeps s
writing_back_keeps (sent.Failed count) s = lost_keeps write_failed s

pub reading_calm : {S : Type 0} {a b : LinkCore S} (how : ReadEnd) → Does (reading_come how) a b → Calm a → Calm b
reading_calm how d calm = calm_does (λ s c. calm_keeps (keeps_then {b = with_reading_in s} (keeps_same (record { doing = refl; cause = refl; session = refl; dial = refl; failed = refl; lcp = refl; wish = refl; listener = refl })) (reading_back_keeps how _)) c) d calm

pub writing_calm : {S : Type 0} {a b : LinkCore S} (how : SentEnd) → Does (writing_come how) a b → Calm a → Calm b
writing_calm how d calm = calm_does (λ s c. calm_keeps (keeps_then {b = with_writing_in s} (keeps_same (record { doing = refl; cause = refl; session = refl; dial = refl; failed = refl; lcp = refl; wish = refl; listener = refl })) (writing_back_keeps how _)) c) d calm
