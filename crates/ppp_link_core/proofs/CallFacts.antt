-- What LCP's answers lead to: what the machine stands for behind each piece.
use Rattle.std.proofs.Common.{◌≡◌, ℕ, Bool, true, false, Option, None, Some, List, refl, ap, sym, subst, ◌∙◌}
use Rattle.std.specs.Prelude.{◌==◌, ◌+◌, ◌&&◌, is_some}
use Rattle.ppp_control.specs.Rules.{Call, hears, rejects}
use Rattle.ppp_hdlc.specs.Deframing.{Deframing}
use Rattle.ppp_lcp.specs.declared.out.LcpOut.{LcpOut}
use Rattle.ppp_mark.specs.Marks.{lcp_open_mark}
use Rattle.ppp_packet.specs.declared.packet.Packet.{Packet}
use Rattle.ppp_link_parts.specs.Records.{DialStands, RecordsNow, marked_with, told}
use Rattle.ppp_outside.specs.declared.line_words.LineWords.{LineWords}
use Rattle.ppp_link_rules.specs.declared.cause.Cause.{Cause}
use Rattle.ppp_link_rules.specs.Authentication.{phase_begun}
use Rattle.ppp_link_rules.specs.Ending.{closed_if, first_caused, lcp_left, with_map}
use Rattle.ppp_link_rules.specs.LcpCalls.{answered, called_part, cause_of, followed, followed_by, lcp_called, lcp_entered, lcp_heard, open_marked, protocol_rejected}
use Rattle.ppp_link_rules.specs.LinkState.{LcpPart, LinkState, agreed, control, is_busy, is_open, lcp_state}
use Rattle.ppp_link_rules.specs.Marking.{marked}
use Rattle.ppp_link_rules.specs.Sending.{map_by, packets_sent}
use Rattle.ppp_link_core.specs.declared.link_core.LinkCore.{LinkCore}
use Rattle.ppp_link_core.specs.Standing.{Does, Lives, Sits, StandsFor, histories_of, opened, state_of}
use Rattle.ppp_link_core.specs.Told.{answered_told, lcp_asked, lcp_asked_by, lcp_asked_now, lcp_told, lcp_told_by}
use Rattle.ppp_link_core.proofs.StandFacts.{at_state, lives_after}

opened_with : ℕ → LinkState → LinkState
opened_with map s = with_map map (marked (λ time. lcp_open_mark time ((control s).openings + 1)) s)

pub marked_does : {S : Type 0} {c : LinkCore S} {r : RecordsNow S} {d : Deframing} {map : ℕ}
    → ((s : LinkState) → StandsFor c s → map_by (agreed s) ≡ map)
    → r ≡ marked_with (lcp_open_mark c.time ((told c.records).openings + 1)) c.records
    → ((line : LineWords) → DialStands line c.records → DialStands line r)
    → d ≡ record c.deframer { map = map }
    → Does open_marked c (record c { records = r; deframer = d })
unfolding opened_with
marked_does {c = c} {r = r} {d = d} {map = map} is e dials f = record {
  stands = λ s k. subst (λ m. StandsFor (record c { records = r; deframer = d }) (opened_with m s)) (sym (is s k)) (record {
    is = at_state c s (λ y. state_of (record c { records = r; deframer = d }) (histories_of (opened_with map y)) ≡ opened_with map y) k (rw (e, f) refl);
    id = rw e k.id;
    moment = k.moment;
    asks = k.asks;
    listens = k.listens;
    negotiates = k.negotiates;
    proves = k.proves;
    dials = dials c.config.line k.dials;
    policy = rw e k.policy;
    fits = k.fits;
    passes = k.passes;
  });
}

pub entered_does : {S : Type 0} {a b c : LinkCore S} → Does open_marked a b → Does phase_begun b c → Does lcp_entered a c
unfolding lcp_entered
entered_does x y = record { stands = λ s k. y.stands (open_marked s) (x.stands s k) }

pub followed_enter : {S : Type 0} {a b : LinkCore S} {was is : Bool} → was ≡ false → is ≡ true → Does lcp_entered a b → Does (followed_by was is) a b
followed_enter {b = b} e f d = record { stands = λ s k. rw (e, f) (d.stands s k) }

pub followed_leave : {S : Type 0} {a b : LinkCore S} {was is : Bool} → was ≡ true → is ≡ false → Does lcp_left a b → Does (followed_by was is) a b
followed_leave {b = b} e f d = record { stands = λ s k. rw (e, f) (d.stands s k) }

pub followed_out : {S : Type 0} {a : LinkCore S} {was is : Bool} → was ≡ false → is ≡ false → Does (followed_by was is) a a
followed_out {a = a} e f = record { stands = λ s k. rw (e, f) k }

pub followed_in : {S : Type 0} {a : LinkCore S} {was is : Bool} → was ≡ true → is ≡ true → Does (followed_by was is) a a
followed_in {a = a} e f = record { stands = λ s k. rw (e, f) k }

pub sits_open : {S : Type 0} {c : LinkCore S} {is : Bool} → is ≡ opened c.lcp → is ≡ true → Sits (opened c.lcp) c
sits_open {c = c} {is = is} e t = record { none = λ f. absurd (let x : true ≡ false = sym t ∙ e ∙ f in cc) }

pub followed_does : {S : Type 0} {a b : LinkCore S} {is : Bool} (was : Bool) → ((s : LinkState) → StandsFor a s → is_open s ≡ is) → Does (followed_by was is) a b → Does (followed was) a b
followed_does {b = b} was h d = record { stands = λ s k. subst (λ x. StandsFor b (followed_by was x s)) (sym (h s k)) (d.stands s k) }

pub answered_does : {S : Type 0} {a b c d e : LinkCore S} {busy first : Bool} (was : Bool) (o : Option Cause) (out : LcpOut)
    → ((s : LinkState) → StandsFor a s → is_busy s ≡ busy) → first ≡ (is_some o && busy)
    → Does (first_caused o) a b → Does (packets_sent out.packets) b c → Does (followed was) c d → Does (closed_if first) d e → Does (answered was o out) a e
unfolding answered
answered_does {e = e} was o out is f w x y z = record {
  stands = λ s k.
      let t = z.stands (followed was (packets_sent out.packets (first_caused o s))) (y.stands (packets_sent out.packets (first_caused o s)) (x.stands (first_caused o s) (w.stands s k))) in
      subst (λ b. StandsFor e (closed_if b (followed was (packets_sent out.packets (first_caused o s))))) (f ∙ ap (λ b. is_some o && b) (sym (is s k))) t;
}

pub sits_same : {S : Type 0} {a b : LinkCore S} {was : Bool} → a.auth ≡ b.auth → Sits was a → Sits was b
sits_same e h = record { none = λ f. ap is_some (sym e) ∙ h.none f }

pub told_some : {S : Type 0} {a b : LinkCore S} {o : Option LcpOut} {out : LcpOut} (state : ℕ)
    → o ≡ Some out → Does (answered (state == 9) (cause_of state out) out) a b → Does (answered_told state o) a b
told_some {b = b} state e d = record { stands = λ s k. subst (λ x. StandsFor b (answered_told state x s)) (sym e) (d.stands s k) }

pub told_none : {S : Type 0} {a : LinkCore S} {o : Option LcpOut} (state : ℕ) → o ≡ None → Does (answered_told state o) a a
told_none {a = a} state e = record { stands = λ s k. subst (λ x. StandsFor a (answered_told state x s)) (sym e) k }

called_is : (call : Call (Unit {0})) (now : ℕ) (s : LinkState) (o : Option LcpPart)
    → answered_told (lcp_state s) (lcp_told_by call now s o) (lcp_asked_by call now s o) ≡ called_part call now o s
called_is call now s None = refl
called_is call now s (Some part) = refl

called_at : {S : Type 0} (b : LinkCore S) (call : Call (Unit {0})) (now : ℕ) (state : ℕ) (o : Option LcpOut) (s : LinkState)
    → lcp_state s ≡ state → o ≡ lcp_told call now s → StandsFor b (answered_told state o (lcp_asked call now s)) → StandsFor b (called_part call now s.lcp s)
called_at b call now state o s e f t =
    subst (λ z. StandsFor b z) (called_is call now s s.lcp)
    (subst (λ z. StandsFor b (answered_told z (lcp_told call now s) (lcp_asked call now s))) (sym e)
    (subst (λ z. StandsFor b (answered_told state z (lcp_asked call now s))) f t))

pub called_does : {S : Type 0} {a b c : LinkCore S} {call : Call (Unit {0})} {state : ℕ} {o : Option LcpOut}
    → ((s : LinkState) → StandsFor a s → lcp_state s ≡ state)
    → ((s : LinkState) → StandsFor a s → o ≡ lcp_told call s.time s)
    → Does (lcp_asked_now call) a b → Does (answered_told state o) b c → Does (lcp_called call) a c
unfolding lcp_called
called_does {c = c} {call = call} {state = state} {o = o} is told x y = record {
  stands = λ s k. called_at c call s.time state o s (is s k) (told s k) (y.stands (lcp_asked_now call s) (x.stands s k));
}

pub rejected_does : {S : Type 0} {a b c : LinkCore S} {protocol : ℕ} {information : List ℕ} {state : ℕ} {o : Option LcpOut}
    → ((s : LinkState) → StandsFor a s → lcp_state s ≡ state)
    → ((s : LinkState) → StandsFor a s → o ≡ lcp_told (rejects protocol information) 0 s)
    → Does (lcp_asked (rejects protocol information) 0) a b → Does (answered_told state o) b c → Does (protocol_rejected protocol information) a c
unfolding protocol_rejected
rejected_does {c = c} {protocol = protocol} {information = information} {state = state} {o = o} is told x y = record {
  stands = λ s k. called_at c (rejects protocol information) 0 state o s (is s k) (told s k) (y.stands (lcp_asked (rejects protocol information) 0 s) (x.stands s k));
}

pub sits_asked : {S : Type 0} {a b : LinkCore S} (state : ℕ) → (state == 9) ≡ opened a.lcp → b ≡ record a { lcp = b.lcp } → Sits (opened a.lcp) a → Sits (state == 9) b
sits_asked {S = S} {a = a} {b = b} state e f h = record { none = λ g. ap (λ (x : LinkCore S). is_some x.auth) f ∙ h.none (sym e ∙ g) }

pub sits_back : {S : Type 0} {a b : LinkCore S} (o : Option LcpOut) → (is_some o ≡ false → b ≡ a) → Sits (opened a.lcp) a → is_some o ≡ false → Sits (opened b.lcp) b
sits_back {S = S} {a = a} {b = b} o f h e = subst (λ (x : LinkCore S). Sits (opened x.lcp) x) (sym (f e)) h

pub sits_none : {S : Type 0} {c : LinkCore S} {was : Bool} {o : Option LcpOut} → o ≡ None → (is_some o ≡ false → Sits was c) → Sits was c
sits_none e h = h (ap is_some e)

pub heard_some : {S : Type 0} {a b : LinkCore S} {o : Option Packet} {packet : Packet} → o ≡ Some packet → Does (lcp_called (hears packet tt)) a b → Does (lcp_heard o) a b
heard_some {b = b} e d = record { stands = λ s k. subst (λ x. StandsFor b (lcp_heard x s)) (sym e) (d.stands s k) }

pub heard_none : {S : Type 0} {a : LinkCore S} {o : Option Packet} → o ≡ None → Does (lcp_heard o) a a
heard_none {a = a} e = record { stands = λ s k. subst (λ x. StandsFor a (lcp_heard x s)) (sym e) k }

pub marked_lives : {S : Type 0} {c : LinkCore S} {r : RecordsNow S} {d : Deframing} {map : ℕ}
    → ((s : LinkState) → StandsFor c s → map_by (agreed s) ≡ map)
    → r ≡ marked_with (lcp_open_mark c.time ((told c.records).openings + 1)) c.records
    → ((line : LineWords) → DialStands line c.records → DialStands line r)
    → d ≡ record c.deframer { map = map }
    → Lives c → Lives (record c { records = r; deframer = d })
marked_lives p0 p1 p2 p3 l = lives_after (marked_does p0 p1 p2 p3) l
