-- Frames come: what the machine stands for behind each piece.
use Rattle.std.proofs.Common.{◌≡◌, ℕ, Bool, true, false, Option, List, [], ◌∷◌, ◌++◌, refl, ap, sym, subst, ◌∙◌}
use Rattle.std.specs.Prelude.{if◌then◌else◌, is_some, nat_le}
use Rattle.ppp_base.specs.declared.posts.UpPost.{UpPost}
use Rattle.ppp_base.specs.RingAfter.{Ring, one_more}
use Rattle.ppp_hdlc.specs.declared.fault.FrameFault.{FrameFault}
use Rattle.ppp_hdlc.specs.declared.heard.Heard.{Heard}
use Rattle.ppp_hdlc.specs.declared.heard.Heard.TheVariants as heard
use Rattle.ppp_packet.specs.declared.agreed.Agreed.{Agreed}
use Rattle.ppp_packet.specs.PacketOf.{packet_in}
use Rattle.ppp_link_parts.specs.UpRing.{has_leave, ring_of}
use Rattle.ppp_link_rules.specs.declared.limits.TheConstants.{FRAME_ROOM}
use Rattle.ppp_link_rules.specs.Authentication.{phase_heard}
use Rattle.ppp_link_rules.specs.Hearing.{frame_taken, heard_taken, looked_after, treated}
use Rattle.ppp_link_rules.specs.LcpCalls.{lcp_heard, protocol_rejected}
use Rattle.ppp_link_rules.specs.LinkState.{LinkState, agreed, has_passed, is_open, outcome_of}
use Rattle.ppp_link_rules.specs.Phase.{Phase, Treatment, ToTable, phase_by}
use Rattle.ppp_link_rules.specs.Rings.{frames_size, put_frame}
use Rattle.ppp_link_rules.specs.UpValue.{UpValue, Asks, Hands, Leaves}
use Rattle.ppp_link_core.specs.declared.link_core.LinkCore.{LinkCore}
use Rattle.ppp_link_core.specs.Standing.{Does, Lives, Sits, StandsFor, histories_of, opened, state_of}
use Rattle.ppp_link_core.proofs.StandFacts.{at_state, lives_after}
use Rattle.ppp_link_hearing.specs.declared.way.Way.{Way}
use Rattle.ppp_link_hearing.specs.declared.way.Way.TheVariants as way
use Rattle.ppp_link_hearing.specs.Heard.{treatment_of}

-- A FRAME WAITS FOR THE TABLE

behind : (posts : List UpValue) (protocol : ℕ) (information : List ℕ) → has_leave posts ≡ false → has_leave (posts ++ Hands protocol information ∷ []) ≡ false
behind [] protocol information e = refl
behind (Asks j ∷ posts) protocol information e = behind posts protocol information e
behind (Hands p i ∷ posts) protocol information e = behind posts protocol information e
behind (Leaves stay ∷ posts) protocol information e = absurd (let z : true ≡ false = e in cc)

either : (b : Bool) (protocol : ℕ) (information : List ℕ) (ring : Ring UpValue) → has_leave ring.waiting ≡ false
    → has_leave (if b then record ring { waiting = ring.waiting ++ Hands protocol information ∷ [] } else record ring { dropped = one_more ring.dropped }).waiting ≡ false
either true protocol information ring e = behind ring.waiting protocol information e
either false protocol information ring e = e

leave_kept : (protocol : ℕ) (information : List ℕ) (ring : Ring UpValue) → has_leave ring.waiting ≡ false → has_leave (put_frame protocol information ring).waiting ≡ false
leave_kept protocol information ring e = either (nat_le (frames_size (ring.waiting ++ Hands protocol information ∷ [])) FRAME_ROOM) protocol information ring e

pub posted_does : {S : Type 0} {c : LinkCore S} {u : Ring UpPost} (protocol : ℕ) (information : List ℕ)
    → ring_of u ≡ put_frame protocol information (ring_of c.up) → Does (treated ToTable protocol information) c (record c { up = u })
posted_does {c = c} {u = u} protocol information e = record {
  stands = λ s k. record {
    is = at_state c s (λ y. state_of (record c { up = u }) (histories_of (treated ToTable protocol information y)) ≡ treated ToTable protocol information y) k (rw e refl);
    id = k.id;
    moment = k.moment;
    asks = k.asks;
    listens = k.listens;
    negotiates = k.negotiates;
    proves = k.proves;
    dials = k.dials;
    policy = k.policy;
    fits = λ was. leave_kept protocol information s.up (k.fits was);
    passes = k.passes;
  };
}

pub posted_lives : {S : Type 0} {c : LinkCore S} {u : Ring UpPost} (protocol : ℕ) (information : List ℕ)
    → ring_of u ≡ put_frame protocol information (ring_of c.up) → Lives c → Lives (record c { up = u })
posted_lives protocol information e l = lives_after (posted_does protocol information e) l

pub sits_posted : {S : Type 0} {a b : LinkCore S} → b ≡ record a { up = b.up } → Sits (opened a.lcp) a → Sits (opened b.lcp) b
sits_posted {S = S} {a = a} {b = b} e h = record { none = λ g. ap (λ (x : LinkCore S). is_some x.auth) e ∙ h.none (ap (λ (x : LinkCore S). opened x.lcp) (sym e) ∙ g) }

-- WHAT IT IS LOOKED AT AS

by_way : {S : Type 0} {a b : LinkCore S} {w x : Way} (protocol : ℕ) (information : List ℕ) → w ≡ x → Does (treated (treatment_of x) protocol information) a b → Does (treated (treatment_of w) protocol information) a b
by_way {b = b} protocol information e d = record { stands = λ s k. subst (λ y. StandsFor b (treated (treatment_of y) protocol information s)) (sym e) (d.stands s k) }

pub to_lcp : {S : Type 0} {a b : LinkCore S} {w : Way} (protocol : ℕ) (information : List ℕ) → w ≡ way.Lcp → Does (lcp_heard (packet_in information)) a b → Does (treated (treatment_of w) protocol information) a b
to_lcp protocol information e d = by_way protocol information e (record { stands = d.stands })

pub to_auth : {S : Type 0} {a b : LinkCore S} {w : Way} (protocol : ℕ) (information : List ℕ) → w ≡ way.Auth → Does (phase_heard protocol (packet_in information)) a b → Does (treated (treatment_of w) protocol information) a b
to_auth protocol information e d = by_way protocol information e (record { stands = d.stands })

pub to_table : {S : Type 0} {a b : LinkCore S} {w : Way} (protocol : ℕ) (information : List ℕ) → w ≡ way.Table → Does (treated ToTable protocol information) a b → Does (treated (treatment_of w) protocol information) a b
to_table protocol information e d = by_way protocol information e (record { stands = d.stands })

pub to_reject : {S : Type 0} {a b : LinkCore S} {w : Way} (protocol : ℕ) (information : List ℕ) → w ≡ way.Rejected → Does (protocol_rejected protocol information) a b → Does (treated (treatment_of w) protocol information) a b
to_reject protocol information e d = by_way protocol information e (record { stands = d.stands })

pub discarded : {S : Type 0} {a : LinkCore S} {w : Way} (protocol : ℕ) (information : List ℕ) → w ≡ way.Discarded → Does (treated (treatment_of w) protocol information) a a
discarded protocol information e = by_way protocol information e (record { stands = λ s k. k })

pub frame_does : {S : Type 0} {a b : LinkCore S} {now_open passed : Bool} {o : Option Agreed} {t : Treatment} (protocol : ℕ) (information : List ℕ)
    → ((s : LinkState) → StandsFor a s → is_open s ≡ now_open) → ((s : LinkState) → StandsFor a s → has_passed (outcome_of s.auth) ≡ passed)
    → ((s : LinkState) → StandsFor a s → agreed s ≡ o) → t ≡ Phase (phase_by now_open passed) o protocol
    → Does (treated t protocol information) a b → Does (frame_taken protocol information) a b
unfolding frame_taken
frame_does {b = b} {now_open = now_open} {passed = passed} {o = o} protocol information f g h e d = record {
  stands = λ s k.
      subst (λ x. StandsFor b (treated (Phase (phase_by x (has_passed (outcome_of s.auth))) (agreed s) protocol) protocol information s)) (sym (f s k))
      (subst (λ x. StandsFor b (treated (Phase (phase_by now_open x) (agreed s) protocol) protocol information s)) (sym (g s k))
      (subst (λ x. StandsFor b (treated (Phase (phase_by now_open passed) x protocol) protocol information s)) (sym (h s k))
      (subst (λ x. StandsFor b (treated x protocol information s)) e (d.stands s k))));
}

-- WHAT STANDS BEHIND IT

pub followed_does : {S : Type 0} {a b c : LinkCore S} (protocol : ℕ) (information : List ℕ)
    → Does (frame_taken protocol information) a b → Does looked_after b c → Does (heard_taken (heard.Frame protocol information)) a c
followed_does protocol information x y = record { stands = λ s k. y.stands (frame_taken protocol information s) (x.stands s k) }

pub heard_frame : {S : Type 0} {a b : LinkCore S} {h : Heard} {protocol : ℕ} {information : List ℕ}
    → h ≡ heard.Frame protocol information → Does (heard_taken (heard.Frame protocol information)) a b → Does (heard_taken h) a b
heard_frame {b = b} e d = record { stands = λ s k. subst (λ x. StandsFor b (heard_taken x s)) (sym e) (d.stands s k) }

pub heard_fault : {S : Type 0} {a b : LinkCore S} {h : Heard} {fault : FrameFault} → h ≡ heard.Dropped fault → Does looked_after a b → Does (heard_taken h) a b
heard_fault {b = b} e d = record { stands = λ s k. subst (λ x. StandsFor b (heard_taken x s)) (sym e) (d.stands s k) }

pub heard_nothing : {S : Type 0} {a : LinkCore S} {h : Heard} → h ≡ heard.Nothing → Does (heard_taken h) a a
heard_nothing {a = a} e = record { stands = λ s k. subst (λ x. StandsFor a (heard_taken x s)) (sym e) k }
