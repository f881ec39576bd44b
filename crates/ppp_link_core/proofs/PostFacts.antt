-- Posts of the table: what the machine stands for behind each piece.
use Rattle.std.proofs.Common.{◌≡◌, ℕ, Bool, true, false, refl, ap, sym, subst, ◌∙◌}
use Rattle.std.specs.Prelude.{◌&&◌, is_none, is_some, not}
use Rattle.ppp_base.specs.declared.posts.CloseCause.{CloseCause}
use Rattle.ppp_base.specs.declared.posts.Refusal.{Refusal}
use Rattle.ppp_mark.specs.Marks.{live_mark, member_mark, refused_mark}
use Rattle.ppp_outside.specs.declared.line_words.LineWords.{LineWords}
use Rattle.ppp_link_parts.specs.Records.{DialStands, RecordsNow, marked_with, told}
use Rattle.ppp_link_rules.specs.declared.cause.Cause.{Cause}
use Rattle.ppp_link_rules.specs.CauseStatus.{closed_by, join_refused}
use Rattle.ppp_link_rules.specs.Ending.{ended_by}
use Rattle.ppp_link_rules.specs.LinkState.{LinkState, control}
use Rattle.ppp_link_rules.specs.Posts.{live_if, live_marked, made_member, member_if, member_marked}
use Rattle.ppp_link_core.specs.declared.link_core.LinkCore.{LinkCore}
use Rattle.ppp_link_core.specs.Standing.{Does, Lives, Sits, StandsFor, histories_of, opened, state_of}
use Rattle.ppp_link_core.specs.Told.{closed_stay, refusal_marked, refused_stay}
use Rattle.ppp_link_core.proofs.StandFacts.{at_state, lives_after}

pub member_does : {S : Type 0} {c : LinkCore S} {r : RecordsNow S} {fresh : Bool} {unit stay : ℕ}
    → fresh ≡ true → r ≡ marked_with (member_mark c.time unit stay) c.records → ((line : LineWords) → DialStands line c.records → DialStands line r)
    → Does (member_if fresh unit stay) c (record c { records = r })
member_does {c = c} {r = r} {unit = unit} {stay = stay} f e dials = record {
  stands = λ s k. subst (λ b. StandsFor (record c { records = r }) (member_if b unit stay s)) (sym f) (record {
    is = at_state c s (λ y. state_of (record c { records = r }) (histories_of (member_if true unit stay y)) ≡ member_if true unit stay y) k (rw e refl);
    id = rw e k.id;
    moment = k.moment;
    asks = k.asks;
    listens = k.listens;
    negotiates = k.negotiates;
    proves = k.proves;
    dials = dials c.config.line k.dials;
    policy = rw e k.policy;
    fits = k.fits;
    passes = k.passes;
  });
}

pub no_member : {S : Type 0} {c : LinkCore S} {fresh : Bool} (unit stay : ℕ) → fresh ≡ false → Does (member_if fresh unit stay) c c
no_member {c = c} unit stay f = record { stands = λ s k. subst (λ b. StandsFor c (member_if b unit stay s)) (sym f) k }

pub live_does : {S : Type 0} {c : LinkCore S} {r : RecordsNow S} {fresh : Bool} {unit stay : ℕ}
    → fresh ≡ true → r ≡ marked_with (live_mark c.time unit stay) c.records → ((line : LineWords) → DialStands line c.records → DialStands line r)
    → Does (live_if fresh unit stay) c (record c { records = r })
live_does {c = c} {r = r} {unit = unit} {stay = stay} f e dials = record {
  stands = λ s k. subst (λ b. StandsFor (record c { records = r }) (live_if b unit stay s)) (sym f) (record {
    is = at_state c s (λ y. state_of (record c { records = r }) (histories_of (live_if true unit stay y)) ≡ live_if true unit stay y) k (rw e refl);
    id = rw e k.id;
    moment = k.moment;
    asks = k.asks;
    listens = k.listens;
    negotiates = k.negotiates;
    proves = k.proves;
    dials = dials c.config.line k.dials;
    policy = rw e k.policy;
    fits = k.fits;
    passes = k.passes;
  });
}

pub not_live : {S : Type 0} {c : LinkCore S} {fresh : Bool} (unit stay : ℕ) → fresh ≡ false → Does (live_if fresh unit stay) c c
not_live {c = c} unit stay f = record { stands = λ s k. subst (λ b. StandsFor c (live_if b unit stay s)) (sym f) k }

pub member_once : {S : Type 0} {a b : LinkCore S} {fresh : Bool} (unit stay : ℕ) → fresh ≡ is_none (told a.records).unit → Does (member_if fresh unit stay) a b → Does (member_marked unit stay) a b
member_once {b = b} unit stay e d = record {
  stands = λ s k. subst (λ x. StandsFor b (member_if x unit stay s)) (e ∙ ap (λ (y : LinkState). is_none (control y).unit) k.is) (d.stands s k);
}

pub live_once : {S : Type 0} {a b : LinkCore S} {fresh : Bool} (live : Bool) (unit stay : ℕ) → fresh ≡ (live && not (told a.records).live) → Does (live_if fresh unit stay) a b → Does (live_marked live unit stay) a b
live_once {b = b} live unit stay e d = record {
  stands = λ s k. subst (λ x. StandsFor b (live_if x unit stay s)) (e ∙ ap (λ (y : LinkState). live && not (control y).live) k.is) (d.stands s k);
}

pub made_does : {S : Type 0} {a b c : LinkCore S} (live : Bool) (unit stay : ℕ) → Does (member_marked unit stay) a b → Does (live_marked live unit stay) b c → Does (made_member stay unit live) a c
made_does live unit stay x y = record { stands = λ s k. y.stands (member_marked unit stay s) (x.stands s k) }

pub refusal_does : {S : Type 0} {c : LinkCore S} {r : RecordsNow S} {stay : ℕ} (reason : Refusal)
    → r ≡ marked_with (refused_mark c.time reason stay) c.records → ((line : LineWords) → DialStands line c.records → DialStands line r)
    → Does (refusal_marked stay reason) c (record c { records = r })
refusal_does {c = c} {r = r} {stay = stay} reason e dials = record {
  stands = λ s k. record {
    is = at_state c s (λ y. state_of (record c { records = r }) (histories_of (refusal_marked stay reason y)) ≡ refusal_marked stay reason y) k (rw e refl);
    id = rw e k.id;
    moment = k.moment;
    asks = k.asks;
    listens = k.listens;
    negotiates = k.negotiates;
    proves = k.proves;
    dials = dials c.config.line k.dials;
    policy = rw e k.policy;
    fits = k.fits;
    passes = k.passes;
  };
}

pub refused_does : {S : Type 0} {a b c : LinkCore S} {x : Cause} (stay : ℕ) (reason : Refusal) → x ≡ join_refused reason → Does (refusal_marked stay reason) a b → Does (ended_by x) b c → Does (refused_stay stay reason) a c
refused_does {c = c} stay reason e f d = record {
  stands = λ s k. subst (λ x. StandsFor c (ended_by x (refusal_marked stay reason s))) e (d.stands (refusal_marked stay reason s) (f.stands s k));
}

pub closed_does : {S : Type 0} {a b c : LinkCore S} {x : Cause} (stay unit : ℕ) (why : CloseCause) (live : Bool) → x ≡ closed_by why → Does (made_member stay unit live) a b → Does (ended_by x) b c → Does (closed_stay stay unit why live) a c
closed_does {c = c} stay unit why live e f d = record {
  stands = λ s k. subst (λ x. StandsFor c (ended_by x (made_member stay unit live s))) e (d.stands (made_member stay unit live s) (f.stands s k));
}

pub sits_marked : {S : Type 0} {a b : LinkCore S} → b ≡ record a { records = b.records } → Sits (opened a.lcp) a → Sits (opened b.lcp) b
sits_marked {S = S} {a = a} {b = b} e h = record { none = λ g. ap (λ (x : LinkCore S). is_some x.auth) e ∙ h.none (ap (λ (x : LinkCore S). opened x.lcp) (sym e) ∙ g) }

pub member_lives : {S : Type 0} {c : LinkCore S} {r : RecordsNow S} {fresh : Bool} {unit stay : ℕ}
    → fresh ≡ true → r ≡ marked_with (member_mark c.time unit stay) c.records → ((line : LineWords) → DialStands line c.records → DialStands line r)
    → Lives c → Lives (record c { records = r })
member_lives p0 p1 p2 l = lives_after (member_does p0 p1 p2) l

pub live_lives : {S : Type 0} {c : LinkCore S} {r : RecordsNow S} {fresh : Bool} {unit stay : ℕ}
    → fresh ≡ true → r ≡ marked_with (live_mark c.time unit stay) c.records → ((line : LineWords) → DialStands line c.records → DialStands line r)
    → Lives c → Lives (record c { records = r })
live_lives p0 p1 p2 l = lives_after (live_does p0 p1 p2) l

pub refusal_lives : {S : Type 0} {c : LinkCore S} {r : RecordsNow S} {stay : ℕ} (reason : Refusal)
    → r ≡ marked_with (refused_mark c.time reason stay) c.records → ((line : LineWords) → DialStands line c.records → DialStands line r)
    → Lives c → Lives (record c { records = r })
refusal_lives reason p0 p1 l = lives_after (refusal_does reason p0 p1) l
