-- What a span of octets leads to: those that are answered Nothing change the deframer alone.
use Rattle.std.proofs.Common.{refl, ap, sym, subst, ◌∙◌, ◌≡◌, ℕ, suc, zero, List, [], ◌∷◌, take, drop, arith}
use Rattle.std.specs.Prelude.{slice_index}
use Rattle.ppp_hdlc.specs.declared.heard.Heard.{Heard}
use Rattle.ppp_hdlc.specs.declared.heard.Heard.TheVariants.{Nothing}
use Rattle.ppp_hdlc.specs.Deframing.{Deframing, fed, heard_at}
use Rattle.ppp_hdlc.specs.Spans.{IsSpan, fed_all, heard_in}
use Rattle.ppp_link_rules.specs.FrameCounts.{counted}
use Rattle.ppp_link_rules.specs.declared.counts.FrameCounts.{FrameCounts}
use Rattle.ppp_link_rules.specs.Hearing.{heard_taken, octet_taken, octet_to, octets_taken, with_fed}
use Rattle.ppp_link_rules.specs.LinkState.{Framing, LinkState, Listener}

-- the state with what these octets leave in the deframer and this answer counted
abbrev pub with_span : List ℕ → Heard → LinkState → LinkState
with_span octets heard s = record s { deframer = fed_all octets s.deframer; counts = counted heard s.counts }

-- one octet where frames are heard
one_octet : (octet : ℕ) (s : LinkState) → s.listener ≡ Framing → octet_taken octet s ≡ heard_taken (heard_at octet s.deframer) (with_fed octet s)
unfolding octet_taken
one_octet octet s e = ap (λ (l : Listener). octet_to l octet s) e

all_none : (d : Deframing) → fed_all [] d ≡ d
unfolding fed_all
all_none d = refl

all_more : (octet : ℕ) (octets : List ℕ) (d : Deframing) → fed_all (octet ∷ octets) d ≡ fed_all octets (fed octet d)
unfolding fed_all
all_more octet octets d = refl

-- what an octet behind the first one is answered
heard_more : (octet : ℕ) (octets : List ℕ) (d : Deframing) (index : ℕ) → heard_in (octet ∷ octets) d (suc index) ≡ heard_in octets (fed octet d) index
heard_more octet octets d index = ap (λ (after : Deframing). heard_at (slice_index octets index) after) (all_more octet (take index octets) d)

-- what the first one is answered
heard_first : (octet : ℕ) (octets : List ℕ) (d : Deframing) → heard_at octet d ≡ heard_in (octet ∷ octets) d zero
heard_first octet octets d = ap (λ (after : Deframing). heard_at octet after) (sym (all_none d))

-- The rest of a span is one behind its first octet.
rest_span : (octet : ℕ) (octets : List ℕ) (d : Deframing) (used : ℕ) (heard : Heard) → IsSpan (octet ∷ octets) d (suc (suc used)) heard → IsSpan octets (fed octet d) (suc used) heard
rest_span octet octets d used heard h = record {
  within = omega (arith, h.within);
  before = λ index le. sym (heard_more octet octets d index) ∙ h.before (suc index) (omega (arith, le));
  last = λ index e. sym (heard_more octet octets d index) ∙ h.last (suc index) (omega (arith, e));
  none = λ e. absurd (omega (arith, e));
  all = λ e. omega (arith, h.all e);
}

-- one octet, by its answer
first_octet : (octet : ℕ) (s : LinkState) (heard : Heard) → s.listener ≡ Framing → heard_at octet s.deframer ≡ heard
    → octet_taken octet s ≡ heard_taken heard (record s { deframer = fed octet s.deframer; counts = counted heard s.counts })
first_octet octet s heard e is =
    one_octet octet s e ∙ ap (λ (x : Heard). heard_taken x (record s { deframer = fed octet s.deframer; counts = counted x s.counts })) is

span_taken : (octets : List ℕ) (s : LinkState) (used : ℕ) (heard : Heard) → s.listener ≡ Framing → IsSpan octets s.deframer used heard
    → octets_taken (take used octets) s ≡ heard_taken heard (with_span (take used octets) heard s)
span_taken [] s zero heard e h =
    subst (λ (x : Heard). s ≡ heard_taken x (with_span [] x s)) (sym (h.none refl)) (ap (λ (d : Deframing). record s { deframer = d }) (sym (all_none s.deframer)))
span_taken [] s (suc used) heard e h = absurd (omega (arith, h.within))
span_taken (octet ∷ octets) s zero heard e h = absurd (omega (arith, h.all (h.none refl)))
span_taken (octet ∷ octets) s (suc zero) heard e h =
    first_octet octet s heard e (heard_first octet octets s.deframer ∙ h.last zero (omega arith))
    ∙ ap (λ (d : Deframing). heard_taken heard (record s { deframer = d; counts = counted heard s.counts })) (sym (all_more octet [] s.deframer ∙ all_none (fed octet s.deframer)))
span_taken (octet ∷ octets) s (suc (suc used)) heard e h =
    ap (λ (t : LinkState). octets_taken (take (suc used) octets) t) (first_octet octet s Nothing e (heard_first octet octets s.deframer ∙ h.before zero (omega arith)))
    ∙ (span_taken octets (record s { deframer = fed octet s.deframer }) (suc used) heard e (rest_span octet octets s.deframer used heard h)
    ∙ ap (λ (d : Deframing). heard_taken heard (record s { deframer = d; counts = counted heard s.counts })) (sym (all_more octet (take (suc used) octets) s.deframer)))

-- The same of a deframer and counts that the state has.
pub heard_span : (octets : List ℕ) (s : LinkState) (used : ℕ) (heard : Heard) (old new : Deframing) (before after : FrameCounts) → IsSpan octets old used heard
    → new ≡ fed_all (take used octets) old → after ≡ counted heard before → s.listener ≡ Framing → s.deframer ≡ old → s.counts ≡ before
    → octets_taken (take used octets) s ≡ heard_taken heard (record s { deframer = new; counts = after })
heard_span octets s used heard old new before after h n a e f g =
    span_taken octets s used heard e (subst (λ (d : Deframing). IsSpan octets d used heard) (sym f) h)
    ∙ (ap (λ (d : Deframing). heard_taken heard (record s { deframer = d; counts = counted heard s.counts })) (ap (λ (d : Deframing). fed_all (take used octets) d) f ∙ sym n)
    ∙ ap (λ (k : FrameCounts). heard_taken heard (record s { deframer = new; counts = k })) (ap (λ (k : FrameCounts). counted heard k) g ∙ sym a))
