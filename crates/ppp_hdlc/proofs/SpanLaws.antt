-- A piece has one span and no other.
use Rattle.std.proofs.Common.{◌≡◌, ℕ, zero, suc, ◌+◌, ◌<◌, ◌≤◌, ◌⊎◌, List, [], ◌∷◌, take, get_or, refl, sym, ap, ◌∙◌, arith, inl, inr}
use Rattle.std.proofs.lemmas.Bool.{cases_lt}
use Rattle.ppp_hdlc.specs.declared.heard.Heard.{Heard}
use Rattle.ppp_hdlc.specs.declared.heard.Heard.TheVariants.{Nothing, Frame, Dropped}
use Rattle.ppp_hdlc.specs.Deframing.{Deframing, fed, heard_at}
use Rattle.ppp_hdlc.specs.Spans.{IsSpan, fed_all, heard_in}
use Rattle.ppp_hdlc.proofs.Spanning.{all-none, all-cons, all-one}

not_shorter : (octets : List ℕ) (d : Deframing) (used used' : ℕ) (heard heard' : Heard) → IsSpan octets d used heard → IsSpan octets d used' heard' → used < used' → ⊥
not_shorter octets d zero used' heard heard' span span' shorter =
    omega (arith, span.all (span.none refl), span'.within)
not_shorter octets d (suc n) used' heard heard' span span' shorter =
    let nothing : heard ≡ Nothing = sym (span.last n (omega arith)) ∙ span'.before n (omega arith) in
    omega (arith, span.all nothing, span'.within)

pub span_one : (octets : List ℕ) (d : Deframing) (used used' : ℕ) (heard heard' : Heard) → IsSpan octets d used heard → IsSpan octets d used' heard' → (used ≡ used') × (heard ≡ heard')
span_one octets d used used' heard heard' span span' =
    let same : used ≡ used' = both (cases_lt used used') (cases_lt used' used) in
    (same, answers used used' same span span')
  where
    both : (used < used') ⊎ (used' ≤ used) → (used' < used) ⊎ (used ≤ used') → used ≡ used'
    both (inl shorter) other = absurd (not_shorter octets d used used' heard heard' span span' shorter)
    both (inr long) (inl shorter) = absurd (not_shorter octets d used' used heard' heard span' span shorter)
    both (inr long) (inr short) = omega arith

    answers : (used used' : ℕ) → used ≡ used' → IsSpan octets d used heard → IsSpan octets d used' heard' → heard ≡ heard'
    answers zero used' same span span' = span.none refl ∙ sym (span'.none (sym same))
    answers (suc n) used' same span span' = sym (span.last n (omega arith)) ∙ span'.last n (omega (arith, same))

nothing-or : (heard : Heard) → (heard ≡ Nothing) ⊎ (heard ≡ Nothing → ⊥)
nothing-or Nothing = inl refl
nothing-or (Frame protocol information) = inr (λ same. absurd (cc))
nothing-or (Dropped reason) = inr (λ same. absurd (cc))

heard-first : (x : ℕ) (xs : List ℕ) (d : Deframing) → heard_in (x ∷ xs) d 0 ≡ heard_at x d
heard-first x xs d = ap (λ (e : Deframing). heard_at x e) (all-none d)

heard-later : (x : ℕ) (xs : List ℕ) (d : Deframing) (index : ℕ) → heard_in (x ∷ xs) d (suc index) ≡ heard_in xs (fed x d) index
heard-later x xs d index = ap (λ (e : Deframing). heard_at (get_or xs index 0) e) (all-cons x (take index xs) d)

ends-here : (x : ℕ) (xs : List ℕ) (d : Deframing) → (heard_at x d ≡ Nothing → ⊥) → IsSpan (x ∷ xs) d 1 (heard_at x d)
ends-here x xs d some = record {
  within = omega arith;
  before = λ index below. absurd (omega arith);
  last = λ index is_last. let first : index ≡ 0 = omega arith in rw first (heard-first x xs d);
  none = λ zero. absurd (omega (arith, zero));
  all = λ nothing. absurd (some nothing);
}

goes-on : (x : ℕ) (xs : List ℕ) (d : Deframing) (used : ℕ) (heard : Heard) → heard_at x d ≡ Nothing → IsSpan xs (fed x d) used heard → IsSpan (x ∷ xs) d (suc used) heard
goes-on x xs d used heard nothing span = record {
  within = omega (arith, span.within);
  before = before;
  last = last;
  none = λ zero. absurd (omega (arith, zero));
  all = λ quiet. omega (arith, span.all quiet);
}
  where
    before : (index : ℕ) → index + 1 < suc used → heard_in (x ∷ xs) d index ≡ Nothing
    before zero below = heard-first x xs d ∙ nothing
    before (suc index) below = heard-later x xs d index ∙ span.before index (omega arith)

    last : (index : ℕ) → index + 1 ≡ suc used → heard_in (x ∷ xs) d index ≡ heard
    last zero is_last = heard-first x xs d ∙ nothing ∙ sym (span.none (omega (arith, is_last)))
    last (suc index) is_last = heard-later x xs d index ∙ span.last index (omega (arith, is_last))

pub span_some : (octets : List ℕ) (d : Deframing) → (used : ℕ) × (heard : Heard) × IsSpan octets d used heard
span_some [] d = (
  0,
  Nothing,
  record {
    within = omega arith;
    before = λ index below. absurd (omega arith);
    last = λ index is_last. absurd (omega arith);
    none = λ zero. refl;
    all = λ nothing. refl;
  },
)
span_some (x ∷ xs) d =
    elim (nothing-or (heard_at x d)) [
      | inl nothing ↦ let more = span_some xs (fed x d) in (suc more.0, more.1, goes-on x xs d more.0 more.1 nothing more.2)
      | inr some ↦ (1, heard_at x d, ends-here x xs d some)
    ]

pub span_octet : (octet : ℕ) (d : Deframing) → IsSpan (octet ∷ []) d 1 (heard_at octet d) × (fed_all (octet ∷ []) d ≡ fed octet d)
span_octet octet d = (
  record {
    within = omega arith;
    before = λ index below. absurd (omega arith);
    last = λ index is_last. let first : index ≡ 0 = omega arith in rw first (heard-first octet [] d);
    none = λ zero. absurd (omega (arith, zero));
    all = λ nothing. refl;
  },
  all-one octet d,
)
