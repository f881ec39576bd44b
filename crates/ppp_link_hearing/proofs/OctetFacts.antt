-- Octets of the line come: what the machine stands for behind each piece.
use Rattle.std.proofs.Common.{◌≡◌, ℕ, List, [], ◌∷◌, refl, ap, sym, subst, ◌∙◌, length, take}
use Rattle.std.specs.Prelude.{is_some}
use Rattle.ppp_hdlc.specs.Deframing.{Deframing}
use Rattle.ppp_hdlc.specs.declared.heard.Heard.{Heard}
use Rattle.ppp_link_parts.specs.Talk.{who_of}
use Rattle.ppp_link_parts.specs.declared.talk.Hears.{Hears}
use Rattle.ppp_link_parts.specs.declared.talk.Hears.TheVariants as hears
use Rattle.ppp_link_rules.specs.declared.counts.FrameCounts.{FrameCounts}
use Rattle.ppp_link_rules.specs.Hearing.{heard_taken, octet_taken, octet_to, octets_taken}
use Rattle.ppp_link_rules.specs.LinkState.{LinkState, Listener, Nobody, Chatting, Framing}
use Rattle.ppp_link_core.specs.declared.link_core.LinkCore.{LinkCore}
use Rattle.ppp_link_core.specs.Standing.{Does, Lives, Sits, StandsFor, histories_of, opened, state_of}
use Rattle.ppp_link_core.proofs.StandFacts.{at_state, lives_after}
use Rattle.ppp_link_hearing.specs.Heard.{with_deframed}

-- FRAMES ARE HEARD

pub deframed_does : {S : Type 0} {c : LinkCore S} {d : Deframing} {n : FrameCounts} → Does (with_deframed d n) c (record c { deframer = d; counts = n })
deframed_does {c = c} {d = d} {n = n} = record {
  stands = λ s k. record {
    is = at_state c s (λ y. state_of (record c { deframer = d; counts = n }) (histories_of (with_deframed d n y)) ≡ with_deframed d n y) k refl;
    id = k.id;
    moment = k.moment;
    asks = k.asks;
    listens = k.listens;
    negotiates = k.negotiates;
    proves = k.proves;
    dials = k.dials;
    policy = k.policy;
    fits = k.fits;
    passes = k.passes;
  };
}

pub deframed_lives : {S : Type 0} {c : LinkCore S} (d : Deframing) (n : FrameCounts) → Lives c → Lives (record c { deframer = d; counts = n })
deframed_lives d n l = lives_after (deframed_does {d = d} {n = n}) l

framing : (l : Listener) → who_of l ≡ hears.Frames → l ≡ Framing
framing Nobody e = absurd (let z : hears.Nobody ≡ hears.Frames = e in cc)
framing (Chatting calls) e = absurd (let z : hears.Chat ≡ hears.Frames = e in cc)
framing Framing e = refl

pub deframed_is : {S : Type 0} {c : LinkCore S} (octets : List ℕ) (heard : Heard) (d : Deframing) (n : FrameCounts) → c.talk.who ≡ hears.Frames
    → ((s : LinkState) → s.listener ≡ Framing → s.deframer ≡ c.deframer → s.counts ≡ c.counts → octets_taken octets s ≡ heard_taken heard (record s { deframer = d; counts = n }))
    → (s : LinkState) → StandsFor c s → octets_taken octets s ≡ heard_taken heard (with_deframed d n s)
deframed_is octets heard d n w h s k = h s (framing s.listener (sym k.listens.who ∙ w)) (ap (λ (y : LinkState). y.deframer) (sym k.is)) (ap (λ (y : LinkState). y.counts) (sym k.is))

pub span_does : {S : Type 0} {a b c : LinkCore S} (octets : List ℕ) (heard : Heard) (d : Deframing) (n : FrameCounts)
    → ((s : LinkState) → StandsFor a s → octets_taken octets s ≡ heard_taken heard (with_deframed d n s))
    → Does (with_deframed d n) a b → Does (heard_taken heard) b c → Does (octets_taken octets) a c
span_does {c = c} octets heard d n h x y = record { stands = λ s k. subst (λ z. StandsFor c z) (sym (h s k)) (y.stands (with_deframed d n s) (x.stands s k)) }

pub sits_deframed : {S : Type 0} {a b : LinkCore S} → b ≡ record a { deframer = b.deframer; counts = b.counts } → Sits (opened a.lcp) a → Sits (opened b.lcp) b
sits_deframed {S = S} {a = a} {b = b} e h = record { none = λ g. ap (λ (x : LinkCore S). is_some x.auth) e ∙ h.none (ap (λ (x : LinkCore S). opened x.lcp) (sym e) ∙ g) }

-- A CHAT HEARS, OR NOBODY

pub first_does : {S : Type 0} {a b : LinkCore S} {octets rest : List ℕ} {octet : ℕ} → octets ≡ octet ∷ rest → Does (octet_taken octet) a b → Does (octets_taken (take 1 octets)) a b
first_does {b = b} e d = record { stands = λ s k. subst (λ x. StandsFor b (octets_taken (take 1 x) s)) (sym e) (d.stands s k) }

pub none_does : {S : Type 0} {a : LinkCore S} (octets : List ℕ) → Does (octets_taken (take 0 octets)) a a
none_does octets = record { stands = λ s k. k }

unheard : (octet : ℕ) (s : LinkState) → s.listener ≡ Nobody → octet_taken octet s ≡ s
unfolding octet_taken
unheard octet s e = ap (λ (l : Listener). octet_to l octet s) e

none_heard : (octets : List ℕ) (s : LinkState) → s.listener ≡ Nobody → octets_taken octets s ≡ s
none_heard [] s e = refl
none_heard (octet ∷ octets) s e = ap (λ (t : LinkState). octets_taken octets t) (unheard octet s e) ∙ none_heard octets s e

nobody : (l : Listener) → who_of l ≡ hears.Nobody → l ≡ Nobody
nobody Nobody e = refl
nobody (Chatting calls) e = absurd (let z : hears.Chat ≡ hears.Nobody = e in cc)
nobody Framing e = absurd (let z : hears.Frames ≡ hears.Nobody = e in cc)

pub nobody_does : {S : Type 0} {a : LinkCore S} {w : Hears} (octets : List ℕ) → w ≡ a.talk.who → w ≡ hears.Nobody → Does (octets_taken octets) a a
nobody_does {a = a} octets e f = record { stands = λ s k. subst (λ t. StandsFor a t) (sym (none_heard octets s (nobody s.listener (sym k.listens.who ∙ sym e ∙ f)))) k }
