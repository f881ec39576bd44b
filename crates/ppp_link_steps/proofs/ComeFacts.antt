-- The dial comes back: what the machine stands for behind each piece.
use Rattle.std.proofs.Common.{◌≡◌, ◌≤◌, ◌<◌, ℕ, Bool, true, false, Some, [], refl, ap, sym, subst, ◌∙◌, arith}
use Rattle.std.specs.Prelude.{◌+◌, ◌&&◌, is_none, is_some}
use Rattle.ppp_base.specs.RandomWords.{branch_of, state_after}
use Rattle.ppp_lcp.specs.Session.{StandsFor as IsLcp}
use Rattle.ppp_lcp.specs.declared.lcp.Lcp.{Lcp}
use Rattle.ppp_lcp.specs.declared.wish.LcpWish.{LcpWish}
use Rattle.ppp_mark.specs.Marks.{line_mark}
use Rattle.ppp_outside.specs.declared.line_words.LineWords.{LineWords}
use Rattle.ppp_link_parts.specs.Records.{DialStands, RecordsNow, marked_with, told}
use Rattle.ppp_link_rules.specs.CauseStatus.{dial_failed}
use Rattle.ppp_link_rules.specs.Ending.{ended_by}
use Rattle.ppp_link_rules.specs.Hearing.{talk_begun}
use Rattle.ppp_link_rules.specs.LinkState.{LinkState, control, is_absent, is_busy, is_lasting}
use Rattle.ppp_link_rules.specs.Marks.{is_session}
use Rattle.ppp_link_rules.specs.Sessions.{dial_come, line_come, line_come_if, with_dial_back, with_failure, with_line}
use Rattle.ppp_link_rules.specs.Wishes.{IsWish}
use Rattle.ppp_link_rules.specs.declared.errand.Errand.{Errand}
use Rattle.ppp_link_rules.specs.declared.errand.Errand.TheVariants.{Absent, Waiting, Out}
use Rattle.ppp_link_core.proofs.StandFacts.{at_state, lives_after}
use Rattle.ppp_link_core.specs.Standing.{Does, Lives, Sits, StandsFor, histories_of, opened, state_of}
use Rattle.ppp_link_core.specs.declared.link_core.LinkCore.{LinkCore}
use Rattle.ppp_link_steps.proofs.CalmLemmas.{calm_keeps, ended_keeps}
use Rattle.ppp_link_steps.proofs.DialFacts.{still_by, still_sits}
use Rattle.ppp_link_steps.proofs.TalkLemmas.{begun_calm}
use Rattle.ppp_link_steps.proofs.WishFacts.{wishes_equal}
use Rattle.ppp_link_steps.specs.Calm.{Calm, IsCalm, IsStill, may_talk, pending}
use Rattle.ppp_link_steps.specs.Come.{no_line_back}

-- THE DIAL IS BACK

pub back_does : {S : Type 0} {c : LinkCore S} → Does with_dial_back c (record c { dial = Absent })
back_does {c = c} = record {
  stands = λ s k. record {
    is = at_state c s (λ y. state_of (record c { dial = Absent }) (histories_of (with_dial_back y)) ≡ with_dial_back y) k refl;
    id = k.id;
    moment = k.moment;
    asks = k.asks;
    listens = k.listens;
    negotiates = k.negotiates;
    proves = k.proves;
    dials = k.dials;
    policy = k.policy;
    fits = k.fits;
    passes = k.passes;
  };
}

pub back_lives : {S : Type 0} {c : LinkCore S} → Lives c → Lives (record c { dial = Absent })
back_lives l = lives_after back_does l

pub failed_does : {S : Type 0} {c : LinkCore S} {n : ℕ} → n ≡ c.failed_dials + 1 → Does with_failure c (record c { dial = Absent; failed_dials = n })
failed_does {c = c} {n = n} e = record {
  stands = λ s k. record {
    is = at_state c s (λ y. state_of (record c { dial = Absent; failed_dials = n }) (histories_of (with_failure y)) ≡ with_failure y) k (rw e refl);
    id = k.id;
    moment = k.moment;
    asks = k.asks;
    listens = k.listens;
    negotiates = k.negotiates;
    proves = k.proves;
    dials = k.dials;
    policy = k.policy;
    fits = k.fits;
    passes = k.passes;
  };
}

pub failed_lives : {S : Type 0} {c : LinkCore S} {n : ℕ} → n ≡ c.failed_dials + 1 → Lives c → Lives (record c { dial = Absent; failed_dials = n })
failed_lives e l = lives_after (failed_does e) l

pub no_line_does : {S : Type 0} {a b c : LinkCore S} → Does with_failure a b → Does (ended_by dial_failed) b c → Does no_line_back a c
no_line_does x y = record { stands = λ s k. y.stands (with_failure s) (x.stands s k) }

-- WHILE THE DIAL IS OUT

out_at : {S : Type 0} {c : LinkCore S} (s : LinkState) → StandsFor c s → c.dial ≡ Out → s.dial ≡ Out
out_at s k e = ap (λ (y : LinkState). y.dial) (sym k.is) ∙ e

no_talk : (busy : Bool) (dial : Errand) → dial ≡ Out → (busy && is_absent dial) ≡ false
no_talk true dial e = ap is_absent e
no_talk false dial e = refl

out_still : (s : LinkState) → IsCalm s → s.dial ≡ Out → IsStill s
out_still s c e = c.still (no_talk (is_busy s) s.dial e)

pub sits_failed : {S : Type 0} {b : LinkCore S} (a : LinkCore S) → b ≡ record a { dial = b.dial; failed_dials = b.failed_dials } → Sits (opened a.lcp) a → Sits (opened b.lcp) b
sits_failed {S = S} a e h = record { none = λ g. ap (λ (x : LinkCore S). is_some x.auth) e ∙ h.none (ap (λ (x : LinkCore S). opened x.lcp) (sym e) ∙ g) }

few_out : (failed session : ℕ) (dial : Errand) → dial ≡ Out → failed + pending dial ≤ session → failed + 1 ≤ session
few_out failed session dial e h = subst (λ d. failed + pending d ≤ session) e h

pub few_failed : {S : Type 0} {c : LinkCore S} {sessions : ℕ} → Calm c → c.dial ≡ Out → sessions ≡ (told c.records).session → sessions ≤ 4294967295 → c.failed_dials < 4294967295
few_failed {c = c} {sessions = sessions} calm e f g =
    let s : LinkState = calm.state in
    let few : s.failed_dials + 1 ≤ (control s).session = few_out s.failed_dials (control s).session s.dial (out_at s calm.stands e) calm.calm.few in
    let one : c.failed_dials ≡ s.failed_dials = ap (λ (y : LinkState). y.failed_dials) calm.stands.is in
    let two : sessions ≡ (control s).session = f ∙ ap (λ (y : LinkState). (control y).session) calm.stands.is in
    below c.failed_dials s.failed_dials sessions (control s).session one two few g
  where
    below : (a b m n : ℕ) → a ≡ b → m ≡ n → b + 1 ≤ n → m ≤ 4294967295 → a < 4294967295
    below a b m n e f h g = omega (arith, e, f, h, g)

-- AND IT STAYS CALM

failed_calm : (s : LinkState) → IsCalm s → s.dial ≡ Out → IsCalm (with_failure s)
failed_calm s c e = record {
  still = λ _. still_by s (with_failure s) refl refl refl (out_still s c e);
  few = zero_more (s.failed_dials + 1) (control s).session (few_out s.failed_dials (control s).session s.dial e c.few);
}
  where
    zero_more : (a b : ℕ) → a ≤ b → a + 0 ≤ b
    zero_more a b h = omega (arith, h)

pub no_line_calm : {S : Type 0} {a c : LinkCore S} → Does no_line_back a c → a.dial ≡ Out → Calm a → Calm c
no_line_calm {c = c} d e calm =
    let s : LinkState = calm.state in
    record {
      state = no_line_back s;
      stands = d.stands s calm.stands;
      calm = calm_keeps (ended_keeps dial_failed (with_failure s)) (failed_calm s calm.calm (out_at s calm.stands e));
    }

-- A LINE COMES

pub line_does : {S : Type 0} {c : LinkCore S} {r : RecordsNow S} {l : Lcp} {wish : LcpWish} {made left : ℕ}
    → r ≡ marked_with (line_mark c.time (told c.records).session) c.records → ((line : LineWords) → DialStands line c.records → DialStands line r)
    → IsWish c.config wish → IsLcp wish made l [] → made ≡ branch_of c.words → left ≡ state_after 2 c.words
    → Does with_line c (record c { records = r; reading = Waiting; writing = Waiting; lcp = Some l; words = left })
line_does {c = c} {r = r} {l = l} {wish = wish} {made = made} {left = left} e dials asks negotiates f g = record {
  stands = λ s k.
      let one : wish ≡ s.wish = wishes_equal asks k.asks in
      let two : made ≡ branch_of s.words = f ∙ ap (λ (y : LinkState). branch_of y.words) k.is in
      record {
        is = at_state c s (λ y. state_of (record c { records = r; reading = Waiting; writing = Waiting; lcp = Some l; words = left }) (histories_of (with_line y)) ≡ with_line y) k (rw (e, g) refl);
        id = rw e k.id;
        moment = k.moment;
        asks = k.asks;
        listens = k.listens;
        negotiates = subst (λ x. IsLcp x (branch_of s.words) l []) one (subst (λ x. IsLcp wish x l []) two negotiates);
        proves = k.proves;
        dials = dials c.config.line k.dials;
        policy = rw e k.policy;
        fits = k.fits;
        passes = k.passes;
      };
}

pub line_lives : {S : Type 0} {c : LinkCore S} {r : RecordsNow S} {l : Lcp} {wish : LcpWish} {made left : ℕ}
    → r ≡ marked_with (line_mark c.time (told c.records).session) c.records → ((line : LineWords) → DialStands line c.records → DialStands line r)
    → IsWish c.config wish → IsLcp wish made l [] → made ≡ branch_of c.words → left ≡ state_after 2 c.words
    → Lives c → Lives (record c { records = r; reading = Waiting; writing = Waiting; lcp = Some l; words = left })
line_lives e dials asks negotiates f g l = lives_after (line_does e dials asks negotiates f g) l

pub line_sits : {S : Type 0} {c : LinkCore S} {was : Bool} → is_some c.auth ≡ false → Sits was c
line_sits e = record { none = λ _. e }

pub come_does : {S : Type 0} {a b c : LinkCore S} → Does with_line a b → Does talk_begun b c → Does line_come a c
unfolding line_come
come_does x y = record { stands = λ s k. y.stands (with_line s) (x.stands s k) }

pub come_then : {S : Type 0} {a b : LinkCore S} {busy : Bool} → busy ≡ true → Does line_come a b → Does (line_come_if busy) a b
come_then {b = b} e d = record { stands = λ s k. subst (λ x. StandsFor b (line_come_if x s)) (sym e) (d.stands s k) }

pub come_else : {S : Type 0} {a : LinkCore S} {busy : Bool} → busy ≡ false → Does (line_come_if busy) a a
come_else {a = a} e = record { stands = λ s k. subst (λ x. StandsFor a (line_come_if x s)) (sym e) k }

pub taken_does : {S : Type 0} {a b c : LinkCore S} {busy : Bool} → Does with_dial_back a b
    → busy ≡ (is_session (told b.records).doing && is_none (told b.records).cause) → Does (line_come_if busy) b c → Does (dial_come true) a c
taken_does {b = b} {c = c} x e y = record {
  stands = λ s k.
      let there : StandsFor b (with_dial_back s) = x.stands s k in
      subst (λ z. StandsFor c (line_come_if z (with_dial_back s))) (e ∙ ap (λ (z : LinkState). is_busy z) there.is) (y.stands (with_dial_back s) there);
}

pub sits_back : {S : Type 0} {b : LinkCore S} (a : LinkCore S) → b ≡ record a { dial = b.dial } → Sits (opened a.lcp) a → Sits (opened b.lcp) b
sits_back {S = S} a e h = record { none = λ g. ap (λ (x : LinkCore S). is_some x.auth) e ∙ h.none (ap (λ (x : LinkCore S). opened x.lcp) (sym e) ∙ g) }

-- while the dial is out there is no phase of authentication
pub out_phase : {S : Type 0} {b : LinkCore S} (a : LinkCore S) → b ≡ record a { dial = b.dial } → Calm a → a.dial ≡ Out → Sits (opened a.lcp) a → is_some b.auth ≡ false
out_phase {S = S} a e calm f sits =
    let s : LinkState = calm.state in
    ap (λ (x : LinkCore S). is_some x.auth) e ∙ still_sits s calm.stands (out_still s calm.calm (out_at s calm.stands f)) sits

pub back_then : {S : Type 0} {a b : LinkCore S} {came : Bool} → came ≡ true → Does (dial_come true) a b → Does (dial_come came) a b
back_then {b = b} e d = record { stands = λ s k. subst (λ x. StandsFor b (dial_come x s)) (sym e) (d.stands s k) }

pub back_else : {S : Type 0} {a b : LinkCore S} {came : Bool} → came ≡ false → Does no_line_back a b → Does (dial_come came) a b
back_else {b = b} e d = record { stands = λ s k. subst (λ x. StandsFor b (dial_come x s)) (sym e) (d.stands s k) }

-- AND IT STAYS CALM WITH A LINE

few_back : (failed session : ℕ) (dial : Errand) → failed + pending dial ≤ session → failed + 0 ≤ session
few_back failed session dial h = omega (arith, h)

talks : (s : LinkState) → is_busy s ≡ true → may_talk (with_line (with_dial_back s)) ≡ true
talks s e = both (is_lasting s) (is_none (control s).cause) e
  where
    both : (a b : Bool) → (a && b) ≡ true → (b && true) ≡ true
    both true true e = refl
    both true false e = absurd (let x : false ≡ true = e in cc)
    both false b e = absurd (let x : false ≡ true = e in cc)

with_line_calm : (s : LinkState) → is_busy s ≡ true → IsCalm s → IsCalm (with_line (with_dial_back s))
with_line_calm s e c = record {
  still = λ g. absurd (let x : true ≡ false = sym (talks s e) ∙ g in cc);
  few = few_back s.failed_dials (control s).session s.dial c.few;
}

come_calm : (s : LinkState) → is_busy s ≡ true → IsCalm s → IsCalm (line_come (with_dial_back s))
unfolding line_come
come_calm s e c = begun_calm (with_line (with_dial_back s)) (talks s e) (with_line_calm s e c)

dropped_calm : (s : LinkState) → IsCalm s → s.dial ≡ Out → IsCalm (with_dial_back s)
dropped_calm s c e = record {
  still = λ _. still_by s (with_dial_back s) refl refl refl (out_still s c e);
  few = few_back s.failed_dials (control s).session s.dial c.few;
}

come_if_calm : (busy : Bool) (s : LinkState) → is_busy s ≡ busy → IsCalm s → s.dial ≡ Out → IsCalm (line_come_if busy (with_dial_back s))
come_if_calm true s e c f = come_calm s e c
come_if_calm false s e c f = dropped_calm s c f

pub taken_calm : {S : Type 0} {a c : LinkCore S} → Does (dial_come true) a c → a.dial ≡ Out → Calm a → Calm c
taken_calm d e calm =
    let s : LinkState = calm.state in
    record {
      state = dial_come true s;
      stands = d.stands s calm.stands;
      calm = come_if_calm (is_busy s) s refl calm.calm (out_at s calm.stands e);
    }
