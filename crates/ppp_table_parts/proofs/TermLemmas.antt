-- With which terms links came in: what is done to what waits for them leaves that as it is; and when two keys and two MRRU pairs are equal.
use Rattle.std.proofs.Common.{◌≡◌, ◌≤◌, ◌<◌, ◌+◌, ◌-◌, ◌==◌, ◌&&◌, ℕ, zero, suc, Bool, true, false, Option, None, Some, List, [], ◌∷◌, length, slice_set, slice_index_or, refl, ap, sym, ◌∙◌, arith, nat_eq}
use Rattle.std.proofs.lemmas.Bool.Decides.{nat_tests}
use Rattle.std.specs.Cmp.Lexicographic.{other_text, pointwise, same_text}
use Rattle.ppp_base.specs.Disc.{Discriminator}
use Rattle.ppp_base.specs.Mrru.{MrruPair}
use Rattle.ppp_base.specs.declared.posts.Post.{Post}
use Rattle.ppp_table_parts.specs.Key.{Key, Terms, same_disc, same_key, same_mrru, same_peer}
use Rattle.ppp_table_parts.specs.Side.{SideState, after_first, after_of, idle, with_terms}
use Rattle.ppp_table_parts.specs.Sides.{at_link, each_link, side_of}
use Rattle.ppp_table_parts.proofs.SideLemmas.{set_there}

-- Each link came in with the same terms.
abbrev pub SameTerms : (old new : List SideState) → Type 0
SameTerms old new = (link : ℕ) → (side_of link new).terms ≡ (side_of link old).terms

pub same_terms : (sides : List SideState) → SameTerms sides sides
same_terms sides link = refl

pub then_same : (a b c : List SideState) → SameTerms a b → SameTerms b c → SameTerms a c
then_same a b c f g link = g link ∙ f link

pub kept_at : (link : ℕ) (f : SideState → SideState) (sides : List SideState) → ((side : SideState) → (f side).terms ≡ side.terms) → SameTerms sides (at_link link f sides)
kept_at link f sides same other = at_place (link - 1) (other - 1) sides
  where
    at_place : (n m : ℕ) (xs : List SideState) → (slice_index_or (slice_set xs n (f (slice_index_or xs n idle))) m idle).terms ≡ (slice_index_or xs m idle).terms
    at_place n m [] = refl
    at_place zero zero (x ∷ xs) = same x
    at_place zero (suc m) (x ∷ xs) = refl
    at_place (suc n) zero (x ∷ xs) = refl
    at_place (suc n) (suc m) (x ∷ xs) = at_place n m xs

pub kept_each : (change : ℕ → SideState → SideState) (sides : List SideState) → ((link : ℕ) (side : SideState) → (change link side).terms ≡ side.terms) → SameTerms sides (each_link change 1 sides)
kept_each change sides same other = at_place 1 (other - 1) sides
  where
    at_place : (link m : ℕ) (xs : List SideState) → (slice_index_or (each_link change link xs) m idle).terms ≡ (slice_index_or xs m idle).terms
    at_place link m [] = refl
    at_place link zero (x ∷ xs) = same link x
    at_place link (suc m) (x ∷ xs) = at_place (link + 1) m xs

after_kept : (control : Option Post) (wake : Bool) (side : SideState) → (after_of control wake side).terms ≡ side.terms
after_kept (Some p) wake side = refl
after_kept None true side = refl
after_kept None false side = refl

pub kept_taken : (link : ℕ) (sides : List SideState) → SameTerms sides (at_link link after_first sides)
kept_taken link sides = kept_at link after_first sides (λ side. after_kept side.control side.wake side)

-- WHERE A LINK COMES IN

pub terms_there : (link : ℕ) (terms : Terms) (sides : List SideState) → link - 1 < length sides → (side_of link (at_link link (with_terms terms) sides)).terms ≡ Some terms
terms_there link terms sides some = rw (set_there link (with_terms terms) sides some) refl

pub terms_else : (link other : ℕ) (terms : Terms) (sides : List SideState) → 1 ≤ link → 1 ≤ other → (other ≡ link → ⊥) → (side_of other (at_link link (with_terms terms) sides)).terms ≡ (side_of other sides).terms
terms_else link other terms sides low from apart = at_place (link - 1) (other - 1) sides (λ e. apart (omega (arith, e, low, from)))
  where
    at_place : (n m : ℕ) (xs : List SideState) → (m ≡ n → ⊥) → (slice_index_or (slice_set xs n (with_terms terms (slice_index_or xs n idle))) m idle).terms ≡ (slice_index_or xs m idle).terms
    at_place n m [] apart = refl
    at_place zero zero (x ∷ xs) apart = absurd (apart refl)
    at_place zero (suc m) (x ∷ xs) apart = refl
    at_place (suc n) zero (x ∷ xs) apart = refl
    at_place (suc n) (suc m) (x ∷ xs) apart = at_place n m xs (λ e. apart (ap suc e))

-- WHEN TERMS ARE EQUAL

both : (a b : Bool) → (a && b) ≡ true → (a ≡ true) × (b ≡ true)
both true b e = (refl, e)
both false b e = absurd (let f : false ≡ true = e in cc)

and_true : (a b : Bool) → a ≡ true → b ≡ true → (a && b) ≡ true
and_true true b e f = f
and_true false b e f = absurd (let g : false ≡ true = e in cc)

peers_equal : (a b : Option (List ℕ)) → same_peer a b ≡ true → a ≡ b
peers_equal None None e = refl
peers_equal None (Some b) e = absurd (let f : false ≡ true = e in cc)
peers_equal (Some a) None e = absurd (let f : false ≡ true = e in cc)
peers_equal (Some a) (Some b) e = ap (λ (x : List ℕ). Some x) (same_text a b (sym e))

discs_equal : (a b : Option Discriminator) → same_disc a b ≡ true → a ≡ b
discs_equal None None e = refl
discs_equal None (Some b) e = absurd (let f : false ≡ true = e in cc)
discs_equal (Some a) None e = absurd (let f : false ≡ true = e in cc)
discs_equal (Some a) (Some b) e =
    let p : ((a.class == b.class) ≡ true) × (pointwise nat_eq a.address b.address ≡ true) = both (a.class == b.class) (pointwise nat_eq a.address b.address) e in
    let class : a.class ≡ b.class = (let f : (a.class == b.class) ≡ true = p.0 in grind (arith, nat_tests)) in
    let address : a.address ≡ b.address = same_text a.address b.address (sym p.1) in
    ap (λ (d : Discriminator). Some d) (ap (λ (n : ℕ). record { class = n; address = a.address }) class ∙ ap (λ (xs : List ℕ). record { class = b.class; address = xs }) address)

pub keys_equal : (a b : Key) → same_key a b ≡ true → a ≡ b
keys_equal a b e =
    let p : (same_peer a.peer b.peer ≡ true) × (same_disc a.disc b.disc ≡ true) = both (same_peer a.peer b.peer) (same_disc a.disc b.disc) e in
    let peer : a.peer ≡ b.peer = peers_equal a.peer b.peer p.0 in
    let disc : a.disc ≡ b.disc = discs_equal a.disc b.disc p.1 in
    ap (λ (o : Option (List ℕ)). record { peer = o; disc = a.disc }) peer ∙ ap (λ (o : Option Discriminator). record { peer = b.peer; disc = o }) disc

text_same : (xs : List ℕ) → pointwise nat_eq xs xs ≡ true
text_same xs = by_case (pointwise nat_eq xs xs) refl
  where
    by_case : (b : Bool) → b ≡ pointwise nat_eq xs xs → b ≡ true
    by_case true e = refl
    by_case false e = absurd (other_text xs xs e refl)

peer_same : (o : Option (List ℕ)) → same_peer o o ≡ true
peer_same None = refl
peer_same (Some xs) = text_same xs

disc_same : (o : Option Discriminator) → same_disc o o ≡ true
disc_same None = refl
disc_same (Some d) = and_true (d.class == d.class) (pointwise nat_eq d.address d.address) (grind (arith, nat_tests)) (text_same d.address)

pub key_same : (k : Key) → same_key k k ≡ true
key_same k = and_true (same_peer k.peer k.peer) (same_disc k.disc k.disc) (peer_same k.peer) (disc_same k.disc)

pub pairs_equal : (a b : MrruPair) → same_mrru a b ≡ true → a ≡ b
pairs_equal a b e =
    let p : ((a.ours == b.ours) ≡ true) × ((a.theirs == b.theirs) ≡ true) = both (a.ours == b.ours) (a.theirs == b.theirs) e in
    let ours : a.ours ≡ b.ours = (let f : (a.ours == b.ours) ≡ true = p.0 in grind (arith, nat_tests)) in
    let theirs : a.theirs ≡ b.theirs = (let f : (a.theirs == b.theirs) ≡ true = p.1 in grind (arith, nat_tests)) in
    ap (λ (n : ℕ). record { ours = n; theirs = a.theirs }) ours ∙ ap (λ (n : ℕ). record { ours = b.ours; theirs = n }) theirs
