-- A Join is posted: what the machine stands for behind each piece.
use Rattle.std.proofs.Common.{◌≡◌, ℕ, Bool, true, false, Option, None, Some, List, [], ◌∷◌, ◌++◌, refl, ap, sym, subst, ◌∙◌}
use Rattle.std.specs.Prelude.{◌+◌}
use Rattle.ppp_auth.specs.declared.outcome.AuthNow.{AuthNow}
use Rattle.ppp_auth.specs.declared.outcome.AuthNow.TheVariants as now
use Rattle.ppp_base.specs.declared.allow.Allow.{Allow}
use Rattle.ppp_base.specs.declared.posts.UpPost.{UpPost}
use Rattle.ppp_base.specs.RingAfter.{Ring}
use Rattle.ppp_lcp.specs.Last.{IsInRange}
use Rattle.ppp_mark.specs.Marks.{asked_mark}
use Rattle.ppp_outside.specs.declared.line_words.LineWords.{LineWords}
use Rattle.ppp_packet.specs.declared.agreed.Agreed.{Agreed}
use Rattle.ppp_link_parts.specs.Records.{DialStands, RecordsNow, marked_with, told}
use Rattle.ppp_link_parts.specs.UpRing.{has_leave, ring_of, values_of}
use Rattle.ppp_link_rules.specs.Authentication.{asked_by, asked_if, join_of, join_tried}
use Rattle.ppp_link_rules.specs.LinkState.{LinkState, agreed, control, has_passed, is_open, outcome_of}
use Rattle.ppp_link_rules.specs.Phase.{may_ask, phase_by}
use Rattle.ppp_link_rules.specs.Rings.{has_control, put_control}
use Rattle.ppp_link_rules.specs.UpValue.{UpValue, JoinValue, Asks, Hands, Leaves}
use Rattle.ppp_link_core.specs.declared.link_core.LinkCore.{LinkCore}
use Rattle.ppp_link_core.specs.Standing.{Does, Lives, StandsFor, histories_of, state_of}
use Rattle.ppp_link_core.specs.Told.{asked_with}
use Rattle.ppp_link_core.proofs.StandFacts.{at_state, lives_after}

pub may_is : {S : Type 0} {c : LinkCore S} {is passed may waits : Bool} {stay : Option ℕ}
    → ((s : LinkState) → StandsFor c s → is_open s ≡ is) → ((s : LinkState) → StandsFor c s → has_passed (outcome_of s.auth) ≡ passed)
    → stay ≡ (told c.records).stay → waits ≡ has_control (values_of c.up.waiting) → may ≡ may_ask (phase_by is passed) stay waits
    → (s : LinkState) → StandsFor c s → may_ask (phase_by (is_open s) (has_passed (outcome_of s.auth))) (control s).stay (has_control s.up.waiting) ≡ may
may_is {c = c} {is = is} {passed = passed} {may = may} {waits = waits} {stay = stay} f g h i j s k =
    let one : is_open s ≡ is = f s k in
    let two : has_passed (outcome_of s.auth) ≡ passed = g s k in
    let three : (control s).stay ≡ stay = ap (λ (y : LinkState). (control y).stay) (sym k.is) ∙ sym h in
    let four : has_control s.up.waiting ≡ waits = ap (λ (y : LinkState). has_control y.up.waiting) (sym k.is) ∙ sym i in
    ap (λ x. may_ask (phase_by x (has_passed (outcome_of s.auth))) (control s).stay (has_control s.up.waiting)) one
    ∙ ap (λ x. may_ask (phase_by is x) (control s).stay (has_control s.up.waiting)) two
    ∙ ap (λ x. may_ask (phase_by is passed) x (has_control s.up.waiting)) three
    ∙ ap (λ x. may_ask (phase_by is passed) stay x) four
    ∙ sym j

free : (is passed waits : Bool) (stay : Option ℕ) → may_ask (phase_by is passed) stay waits ≡ true → waits ≡ false
free false passed waits stay e = absurd (let z : false ≡ true = e in cc)
free true false waits stay e = absurd (let z : false ≡ true = e in cc)
free true true false stay e = refl
free true true true None e = absurd (let z : false ≡ true = e in cc)
free true true true (Some n) e = absurd (let z : false ≡ true = e in cc)

pub free_by : {may waits : Bool} (posts : List UpValue) (is passed : Bool) (stay : Option ℕ) → waits ≡ has_control posts → may ≡ may_ask (phase_by is passed) stay waits → may ≡ true → has_control posts ≡ false
free_by {waits = waits} posts is passed stay e f g = sym e ∙ free is passed waits stay (sym f ∙ g)

leave_behind : (posts : List UpValue) (join : JoinValue) → has_control posts ≡ false → has_leave (posts ++ Asks join ∷ []) ≡ false
leave_behind [] join e = refl
leave_behind (Asks j ∷ posts) join e = absurd (let z : true ≡ false = e in cc)
leave_behind (Hands protocol information ∷ posts) join e = leave_behind posts join e
leave_behind (Leaves stay ∷ posts) join e = absurd (let z : true ≡ false = e in cc)

pub asked_does : {S : Type 0} {c : LinkCore S} {r : RecordsNow S} {u : Ring UpPost} {stay : ℕ} (terms : Agreed) (peer : Option (List ℕ)) (allow : Allow)
    → has_control (values_of c.up.waiting) ≡ false
    → r ≡ marked_with (asked_mark c.time stay) c.records → stay ≡ (told c.records).stays + 1
    → ((line : LineWords) → DialStands line c.records → DialStands line r)
    → ring_of u ≡ put_control (Asks (join_of stay terms peer allow)) (ring_of c.up)
    → Does (asked_with terms peer allow) c (record c { records = r; up = u })
asked_does {c = c} {r = r} {u = u} {stay = stay} terms peer allow none e f dials g = record {
  stands = λ s k. record {
    is = at_state c s (λ y. state_of (record c { records = r; up = u }) (histories_of (asked_with terms peer allow y)) ≡ asked_with terms peer allow y) k (rw (e, g, f) refl);
    id = rw e k.id;
    moment = k.moment;
    asks = k.asks;
    listens = k.listens;
    negotiates = k.negotiates;
    proves = k.proves;
    dials = dials c.config.line k.dials;
    policy = rw e k.policy;
    fits = λ was. leave_behind s.up.waiting _ (ap (λ (y : LinkState). has_control y.up.waiting) (sym k.is) ∙ none);
    passes = k.passes;
  };
}

pub by_passed : {S : Type 0} {a b : LinkCore S} {n : AuthNow} {o : Option Agreed} {terms : Agreed} {peer : Option (List ℕ)} {allow : Allow}
    → n ≡ now.Passed peer allow → o ≡ Some terms → Does (asked_with terms peer allow) a b → Does (asked_by n o) a b
by_passed {b = b} {o = o} {peer = peer} {allow = allow} e f d = record {
  stands = λ s k. subst (λ x. StandsFor b (asked_by x o s)) (sym e) (subst (λ x. StandsFor b (asked_by (now.Passed peer allow) x s)) (sym f) (d.stands s k));
}

none_by : (n : AuthNow) (s : LinkState) → asked_by n None s ≡ s
none_by now.Going s = refl
none_by (now.Passed peer allow) s = refl
none_by now.PeerFailed s = refl
none_by now.WeFailed s = refl

pub by_none : {S : Type 0} {a : LinkCore S} {o : Option Agreed} (n : AuthNow) → o ≡ None → Does (asked_by n o) a a
by_none {a = a} n e = record { stands = λ s k. subst (λ x. StandsFor a (asked_by n x s)) (sym e) (subst (λ x. StandsFor a x) (sym (none_by n s)) k) }

going : (o : Option Agreed) (s : LinkState) → asked_by now.Going o s ≡ s
going None s = refl
going (Some terms) s = refl

peer : (o : Option Agreed) (s : LinkState) → asked_by now.PeerFailed o s ≡ s
peer None s = refl
peer (Some terms) s = refl

ours : (o : Option Agreed) (s : LinkState) → asked_by now.WeFailed o s ≡ s
ours None s = refl
ours (Some terms) s = refl

pub by_going : {S : Type 0} {a : LinkCore S} {n : AuthNow} (o : Option Agreed) → n ≡ now.Going → Does (asked_by n o) a a
by_going {a = a} o e = record { stands = λ s k. subst (λ x. StandsFor a (asked_by x o s)) (sym e) (subst (λ x. StandsFor a x) (sym (going o s)) k) }

pub by_peer : {S : Type 0} {a : LinkCore S} {n : AuthNow} (o : Option Agreed) → n ≡ now.PeerFailed → Does (asked_by n o) a a
by_peer {a = a} o e = record { stands = λ s k. subst (λ x. StandsFor a (asked_by x o s)) (sym e) (subst (λ x. StandsFor a x) (sym (peer o s)) k) }

pub by_ours : {S : Type 0} {a : LinkCore S} {n : AuthNow} (o : Option Agreed) → n ≡ now.WeFailed → Does (asked_by n o) a a
by_ours {a = a} o e = record { stands = λ s k. subst (λ x. StandsFor a (asked_by x o s)) (sym e) (subst (λ x. StandsFor a x) (sym (ours o s)) k) }

pub range_by : {o : Option Agreed} {terms : Agreed} → o ≡ Some terms → IsInRange o → IsInRange (Some terms)
range_by e h = subst IsInRange e h

pub if_then : {S : Type 0} {a b : LinkCore S} {may : Bool} {n : AuthNow} {o : Option Agreed}
    → may ≡ true → ((s : LinkState) → StandsFor a s → outcome_of s.auth ≡ n) → ((s : LinkState) → StandsFor a s → agreed s ≡ o) → Does (asked_by n o) a b → Does (asked_if may) a b
if_then {b = b} {n = n} {o = o} e f g d = record {
  stands = λ s k. subst (λ x. StandsFor b (asked_if x s)) (sym e)
      (subst (λ x. StandsFor b (asked_by x (agreed s) s)) (sym (f s k)) (subst (λ x. StandsFor b (asked_by n x s)) (sym (g s k)) (d.stands s k)));
}

pub if_else : {S : Type 0} {a : LinkCore S} {may : Bool} → may ≡ false → Does (asked_if may) a a
if_else {a = a} e = record { stands = λ s k. subst (λ x. StandsFor a (asked_if x s)) (sym e) k }

pub tried_does : {S : Type 0} {a b : LinkCore S} {may : Bool}
    → ((s : LinkState) → StandsFor a s → may_ask (phase_by (is_open s) (has_passed (outcome_of s.auth))) (control s).stay (has_control s.up.waiting) ≡ may)
    → Does (asked_if may) a b → Does join_tried a b
unfolding join_tried
tried_does {b = b} f d = record { stands = λ s k. subst (λ x. StandsFor b (asked_if x s)) (sym (f s k)) (d.stands s k) }

pub asked_lives : {S : Type 0} {c : LinkCore S} {r : RecordsNow S} {u : Ring UpPost} {stay : ℕ} (terms : Agreed) (peer : Option (List ℕ)) (allow : Allow)
    → has_control (values_of c.up.waiting) ≡ false
    → r ≡ marked_with (asked_mark c.time stay) c.records → stay ≡ (told c.records).stays + 1
    → ((line : LineWords) → DialStands line c.records → DialStands line r)
    → ring_of u ≡ put_control (Asks (join_of stay terms peer allow)) (ring_of c.up)
    → Lives c → Lives (record c { records = r; up = u })
asked_lives terms p0 p1 p2 p3 p4 p5 p6 l = lives_after (asked_does terms p0 p1 p2 p3 p4 p5 p6) l
