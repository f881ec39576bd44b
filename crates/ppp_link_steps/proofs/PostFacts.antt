-- The table's posts: what the machine stands for behind each piece.
use Rattle.std.proofs.Common.{◌≡◌, ℕ, Bool, true, false, Option, None, Some, List, refl, ap, sym, subst, ◌∙◌}
use Rattle.std.specs.Prelude.{◌&&◌, is_none, is_some, not}
use Rattle.ppp_base.specs.declared.posts.CloseCause.{CloseCause}
use Rattle.ppp_base.specs.declared.posts.Post.{Post}
use Rattle.ppp_base.specs.declared.posts.Post.TheVariants.{Member, Refused, Close, Send, Reject, Wake}
use Rattle.ppp_base.specs.declared.posts.Refusal.{Refusal}
use Rattle.ppp_dial.specs.declared.call.CallKind.TheVariants as call
use Rattle.ppp_link_parts.specs.Records.{told}
use Rattle.ppp_link_rules.specs.CauseStatus.{closed_by, join_refused}
use Rattle.ppp_link_rules.specs.LcpCalls.{protocol_rejected}
use Rattle.ppp_link_rules.specs.LinkState.{LinkState, control}
use Rattle.ppp_link_rules.specs.Posts.{live_if, made_member, member_if, member_marked, post_taken, rejected_in, sent_in}
use Rattle.ppp_link_rules.specs.Sending.{frame_sent}
use Rattle.ppp_link_core.specs.Standing.{Does, Sits, StandsFor, opened}
use Rattle.ppp_link_core.specs.Told.{closed_stay, refusal_marked, refused_stay}
use Rattle.ppp_link_core.specs.declared.link_core.LinkCore.{LinkCore}
use Rattle.ppp_link_steps.proofs.CalmLemmas.{Keeps, Same, calm_keeps, ended_keeps, frame_is, keeps, keeps_same, rejected_keeps, same, same_then, keeps_then}
use Rattle.ppp_link_steps.proofs.DialFacts.{calm_does}
use Rattle.ppp_link_steps.specs.Calm.{Calm}
use Rattle.ppp_link_steps.specs.Dialled.{dial_asked}
use Rattle.ppp_link_steps.specs.Posted.{rejected_now, sent_now}

member_is : (fresh : Bool) (unit stay : ℕ) (s : LinkState) → Same s (member_if fresh unit stay s)
member_is true unit stay s = record { doing = refl; cause = refl; session = refl; dial = refl; failed = refl; lcp = refl; wish = refl; listener = refl }
member_is false unit stay s = same s

live_is : (fresh : Bool) (unit stay : ℕ) (s : LinkState) → Same s (live_if fresh unit stay s)
live_is true unit stay s = record { doing = refl; cause = refl; session = refl; dial = refl; failed = refl; lcp = refl; wish = refl; listener = refl }
live_is false unit stay s = same s

made_is : (stay unit : ℕ) (live : Bool) (s : LinkState) → Same s (made_member stay unit live s)
made_is stay unit live s = same_then {b = member_marked unit stay s} (member_is (is_none (control s).unit) unit stay s) (live_is (live && not (control (member_marked unit stay s)).live) unit stay _)

pub member_calm : {S : Type 0} {a b : LinkCore S} (stay unit : ℕ) (live : Bool) → Does (made_member stay unit live) a b → Calm a → Calm b
member_calm stay unit live d calm = calm_does (λ s c. calm_keeps (keeps_same (made_is stay unit live s)) c) d calm

refused_keeps : (stay : ℕ) (reason : Refusal) (s : LinkState) → Keeps s (refused_stay stay reason s)
refused_keeps stay reason s = keeps_then {b = refusal_marked stay reason s} (keeps_same (record { doing = refl; cause = refl; session = refl; dial = refl; failed = refl; lcp = refl; wish = refl; listener = refl })) (ended_keeps (join_refused reason) _)

pub refused_calm : {S : Type 0} {a b : LinkCore S} (stay : ℕ) (reason : Refusal) → Does (refused_stay stay reason) a b → Calm a → Calm b
refused_calm stay reason d calm = calm_does (λ s c. calm_keeps (refused_keeps stay reason s) c) d calm

pub closed_calm : {S : Type 0} {a b : LinkCore S} (stay unit : ℕ) (why : CloseCause) (live : Bool) → Does (closed_stay stay unit why live) a b → Calm a → Calm b
closed_calm stay unit why live d calm =
    calm_does (λ s c. calm_keeps (keeps_then {b = made_member stay unit live s} (keeps_same (made_is stay unit live s)) (ended_keeps (closed_by why) _)) c) d calm

-- WHAT IS TO BE SENT

pub sent_some : {S : Type 0} {a b : LinkCore S} {o : Option ℕ} {stay : ℕ} (protocol : ℕ) (information : List ℕ) → o ≡ Some stay → Does (frame_sent protocol information) a b → Does (sent_in o protocol information) a b
sent_some {b = b} protocol information e d = record { stands = λ s k. subst (λ x. StandsFor b (sent_in x protocol information s)) (sym e) (d.stands s k) }

pub sent_none : {S : Type 0} {a : LinkCore S} {o : Option ℕ} (protocol : ℕ) (information : List ℕ) → o ≡ None → Does (sent_in o protocol information) a a
sent_none {a = a} protocol information e = record { stands = λ s k. subst (λ x. StandsFor a (sent_in x protocol information s)) (sym e) k }

pub sits_sent : {S : Type 0} {b : LinkCore S} (a : LinkCore S) → b ≡ record a { out = b.out } → Sits (opened a.lcp) a → Sits (opened b.lcp) b
sits_sent {S = S} a e h = record { none = λ g. ap (λ (x : LinkCore S). is_some x.auth) e ∙ h.none (ap (λ (x : LinkCore S). opened x.lcp) (sym e) ∙ g) }

pub sent_does : {S : Type 0} {a b : LinkCore S} {o : Option ℕ} (protocol : ℕ) (information : List ℕ) → o ≡ (told a.records).stay → Does (sent_in o protocol information) a b → Does (sent_now protocol information) a b
sent_does {b = b} protocol information e d = record {
  stands = λ s k. subst (λ x. StandsFor b (sent_in x protocol information s)) (e ∙ ap (λ (y : LinkState). (control y).stay) k.is) (d.stands s k);
}

sent_is : (o : Option ℕ) (protocol : ℕ) (information : List ℕ) (s : LinkState) → Same s (sent_in o protocol information s)
sent_is None protocol information s = same s
sent_is (Some stay) protocol information s = frame_is protocol information s

pub sent_calm : {S : Type 0} {a b : LinkCore S} (protocol : ℕ) (information : List ℕ) → Does (sent_now protocol information) a b → Calm a → Calm b
sent_calm protocol information d calm = calm_does (λ s c. calm_keeps (keeps_same (sent_is (control s).stay protocol information s)) c) d calm

-- WHAT IS TO BE REJECTED

pub rejected_some : {S : Type 0} {a b : LinkCore S} {o : Option ℕ} {stay : ℕ} (protocol : ℕ) (information : List ℕ) → o ≡ Some stay → Does (protocol_rejected protocol information) a b → Does (rejected_in o protocol information) a b
rejected_some {b = b} protocol information e d = record { stands = λ s k. subst (λ x. StandsFor b (rejected_in x protocol information s)) (sym e) (d.stands s k) }

pub rejected_none : {S : Type 0} {a : LinkCore S} {o : Option ℕ} (protocol : ℕ) (information : List ℕ) → o ≡ None → Does (rejected_in o protocol information) a a
rejected_none {a = a} protocol information e = record { stands = λ s k. subst (λ x. StandsFor a (rejected_in x protocol information s)) (sym e) k }

pub rejected_does : {S : Type 0} {a b : LinkCore S} {o : Option ℕ} (protocol : ℕ) (information : List ℕ) → o ≡ (told a.records).stay → Does (rejected_in o protocol information) a b → Does (rejected_now protocol information) a b
rejected_does {b = b} protocol information e d = record {
  stands = λ s k. subst (λ x. StandsFor b (rejected_in x protocol information s)) (e ∙ ap (λ (y : LinkState). (control y).stay) k.is) (d.stands s k);
}

rejected_in_keeps : (o : Option ℕ) (protocol : ℕ) (information : List ℕ) (s : LinkState) → Keeps s (rejected_in o protocol information s)
rejected_in_keeps None protocol information s = keeps s
rejected_in_keeps (Some stay) protocol information s = rejected_keeps protocol information s

pub rejected_calm : {S : Type 0} {a b : LinkCore S} (protocol : ℕ) (information : List ℕ) → Does (rejected_now protocol information) a b → Calm a → Calm b
rejected_calm protocol information d calm = calm_does (λ s c. calm_keeps (rejected_in_keeps (control s).stay protocol information s) c) d calm

-- EACH POST

pub taken_member : {S : Type 0} {a b : LinkCore S} {post : Post} {stay unit : ℕ} {live : Bool} → post ≡ Member stay unit live → Does (made_member stay unit live) a b → Does (post_taken post) a b
unfolding post_taken
taken_member {b = b} e d = record { stands = λ s k. subst (λ x. StandsFor b (post_taken x s)) (sym e) (d.stands s k) }

pub taken_refused : {S : Type 0} {a b : LinkCore S} {post : Post} {stay : ℕ} {reason : Refusal} → post ≡ Refused stay reason → Does (refused_stay stay reason) a b → Does (post_taken post) a b
unfolding post_taken
taken_refused {b = b} e d = record { stands = λ s k. subst (λ x. StandsFor b (post_taken x s)) (sym e) (d.stands s k) }

pub taken_close : {S : Type 0} {a b : LinkCore S} {post : Post} {stay unit elapsed : ℕ} {why : CloseCause} {live : Bool} → post ≡ Close stay unit why elapsed live → Does (closed_stay stay unit why live) a b → Does (post_taken post) a b
unfolding post_taken
taken_close {b = b} e d = record { stands = λ s k. subst (λ x. StandsFor b (post_taken x s)) (sym e) (d.stands s k) }

pub taken_send : {S : Type 0} {a b : LinkCore S} {post : Post} {protocol : ℕ} {information : List ℕ} → post ≡ Send protocol information → Does (sent_now protocol information) a b → Does (post_taken post) a b
unfolding post_taken
taken_send {b = b} e d = record { stands = λ s k. subst (λ x. StandsFor b (post_taken x s)) (sym e) (d.stands s k) }

pub taken_reject : {S : Type 0} {a b : LinkCore S} {post : Post} {protocol : ℕ} {information : List ℕ} → post ≡ Reject protocol information → Does (rejected_now protocol information) a b → Does (post_taken post) a b
unfolding post_taken
taken_reject {b = b} e d = record { stands = λ s k. subst (λ x. StandsFor b (post_taken x s)) (sym e) (d.stands s k) }

pub taken_wake : {S : Type 0} {a b : LinkCore S} {post : Post} → post ≡ Wake → Does (dial_asked call.Wake) a b → Does (post_taken post) a b
unfolding post_taken
taken_wake {b = b} e d = record { stands = λ s k. subst (λ x. StandsFor b (post_taken x s)) (sym e) (d.stands s k) }
