-- Which octets are a packet.
use Rattle.std.proofs.Common.{Bool, true, false, Some, None, refl, ◌≡◌, ℕ, ◌+◌, ◌-◌, ◌/◌, ◌%◌, ◌<◌, ◌≤◌, inl, inr, List, [], ◌∷◌, ◌++◌, length, take, drop, slice_index, ap, sym, ◌∙◌, arith, length-append, length-take}
use Rattle.std.proofs.lemmas.Grind.{common_steps}
use Rattle.std.specs.Prelude.{nat_le, ◌&&◌}
use Rattle.std.proofs.lemmas.Bool.Decides.{nat_tests}
use Rattle.byteorder.specs.Endian.{big_number}
use Rattle.ppp_packet.specs.PacketOf.{PacketOf, laid_packet, length_field, HasBadLength, has_good_length, packet_in}
use Rattle.ppp_packet.specs.declared.packet.Packet.{Packet}
use Rattle.ppp_packet.proofs.Laying.{take-front}

abbrev pub packet_of : ℕ → ℕ → List ℕ → Packet
packet_of code id body = record { code = code; id = id; body = body }

same : (a b c d : ℕ) (xs ys : List ℕ) → a ≡ c → b ≡ d → xs ≡ ys → packet_of a b xs ≡ packet_of c d ys
same a b c d xs ys p q r = ap (λ n. packet_of n b xs) p ∙ ap (λ n. packet_of c n xs) q ∙ ap (λ zs. packet_of c d zs) r

-- Octets are one packet at most.
pub one_packet : (octets : List ℕ) (p q : Packet) → PacketOf octets p → PacketOf octets q → p ≡ q
one_packet octets p q hp hq =
    let e : laid_packet p ++ hp.padding ≡ laid_packet q ++ hq.padding = sym hp.are ∙ hq.are in
    let codes : p.code ≡ q.code = cc in
    let ids : p.id ≡ q.id = cc in
    let high : (length p.body + 4) / 256 ≡ (length q.body + 4) / 256 = cc in
    let low : (length p.body + 4) % 256 ≡ (length q.body + 4) % 256 = cc in
    let tails : p.body ++ hp.padding ≡ q.body ++ hq.padding = cc in
    let size : length p.body ≡ length q.body = omega (arith, high, low) in
    let bodies : p.body ≡ q.body = sym (take-front p.body hp.padding) ∙ ap (λ xs. take (length p.body) xs) tails ∙ ap (λ n. take n (q.body ++ hq.padding)) size ∙ take-front q.body hq.padding in
    same p.code p.id q.code q.id p.body q.body codes ids bodies

-- A packet has four octets or more.
pub four_octets : (octets : List ℕ) (p : Packet) → PacketOf octets p → 4 ≤ length octets
four_octets octets p h = omega (arith, ap length h.are)

-- A packet's length is right.
pub good_length : (octets : List ℕ) (p : Packet) → PacketOf octets p → HasBadLength octets → ⊥
good_length octets p h bad = refute bad
  where
    field : length_field octets ≡ length p.body + 4
    field = ap length_field h.are ∙ omega arith

    all : length octets ≡ length p.body + 4 + length h.padding
    all = omega (arith, ap length h.are, length-append p.body h.padding)

    refute : HasBadLength octets → ⊥
    refute (inl low) = omega (arith, field, low)
    refute (inr (inl cut)) = omega (arith, field, all, cut)
    refute (inr (inr high)) = omega (arith, field, h.within, high)

-- Octets with a right length are a packet.
pub is_packet : (octets : List ℕ) (size : ℕ) (body : List ℕ) → 4 ≤ length octets → slice_index octets 3 < 256 → size ≡ length_field octets → 4 ≤ size → size ≤ length octets → size ≤ 1508 → body ≡ take (size - 4) (drop 4 octets) → PacketOf octets (packet_of (slice_index octets 0) (slice_index octets 1) body)
is_packet [] size body four octet is low there high e = absurd (omega (arith, four))
is_packet (a ∷ []) size body four octet is low there high e = absurd (omega (arith, four))
is_packet (a ∷ b ∷ []) size body four octet is low there high e = absurd (omega (arith, four))
is_packet (a ∷ b ∷ c ∷ []) size body four octet is low there high e = absurd (omega (arith, four))
is_packet (a ∷ b ∷ c ∷ d ∷ rest) size body four octet is low there high e =
    let bodies : body ≡ take (size - 4) rest = e in
    let sizes : length body + 4 ≡ size = omega (arith, ap length bodies, length-take {A = ℕ} (size - 4) rest, low, there) in
    let first : c ≡ (length body + 4) / 256 = omega (arith, sizes, is, octet) in
    let second : d ≡ (length body + 4) % 256 = omega (arith, sizes, is, octet) in
    let tails : rest ≡ body ++ drop (size - 4) rest = sym (ap (λ xs. xs ++ drop (size - 4) rest) bodies ∙ whole (size - 4) rest) in
    record {
      padding = drop (size - 4) rest;
      are = ap (λ n. a ∷ b ∷ n ∷ d ∷ rest) first ∙ ap (λ n. a ∷ b ∷ ((length body + 4) / 256) ∷ n ∷ rest) second ∙ ap (λ xs. a ∷ b ∷ ((length body + 4) / 256) ∷ ((length body + 4) % 256) ∷ xs) tails;
      within = omega (arith, sizes, high);
    }
  where
    whole : (n : ℕ) (xs : List ℕ) → take n xs ++ drop n xs ≡ xs
    whole n xs = grind (arith, common_steps)

-- The length is the number of the two octets at place 2, the high one first.
pub two_octets : (octets : List ℕ) → 4 ≤ length octets → big_number 2 (take 2 (drop 2 octets)) ≡ length_field octets
two_octets [] four = absurd (omega (arith, four))
two_octets (a ∷ []) four = absurd (omega (arith, four))
two_octets (a ∷ b ∷ []) four = absurd (omega (arith, four))
two_octets (a ∷ b ∷ c ∷ []) four = absurd (omega (arith, four))
two_octets (a ∷ b ∷ c ∷ d ∷ rest) four = omega arith

few : (octets : List ℕ) → length octets < 4 → nat_le 4 (length octets) ≡ false
few octets h = grind (arith, nat_tests)

enough : (octets : List ℕ) → 4 ≤ length octets → nat_le 4 (length octets) ≡ true
enough octets h = grind (arith, nat_tests)

-- fewer than four octets are no packet
pub short_is_none : (octets : List ℕ) → length octets < 4 → packet_in octets ≡ None
unfolding packet_in
short_is_none octets h = rw (few octets h) refl

bad : (octets : List ℕ) → HasBadLength octets → has_good_length octets ≡ false
bad octets (inl low) = let l : nat_le 4 (length_field octets) ≡ false = grind (arith, nat_tests) in rw l refl
bad octets (inr (inl cut)) =
    let c : nat_le (length_field octets) (length octets) ≡ false = grind (arith, nat_tests) in
    rw c (no_good (nat_le 4 (length_field octets)) (nat_le (length_field octets) 1508))
  where
    no_good : (a b : Bool) → (a && (false && b)) ≡ false
    no_good true b = refl
    no_good false b = refl
bad octets (inr (inr high)) =
    let h : nat_le (length_field octets) 1508 ≡ false = grind (arith, nat_tests) in
    rw h (no_good (nat_le 4 (length_field octets)) (nat_le (length_field octets) (length octets)))
  where
    no_good : (a b : Bool) → (a && (b && false)) ≡ false
    no_good true true = refl
    no_good true false = refl
    no_good false b = refl

-- octets with a bad length are no packet
pub bad_is_none : (octets : List ℕ) → 4 ≤ length octets → HasBadLength octets → packet_in octets ≡ None
unfolding packet_in
bad_is_none octets four h = rw (enough octets four, bad octets h) refl

-- octets with a good length are their front
pub good_is_some : (octets : List ℕ) (size : ℕ) → 4 ≤ length octets → size ≡ length_field octets → 4 ≤ size → size ≤ length octets → size ≤ 1508
    → packet_in octets ≡ Some (packet_of (slice_index octets 0) (slice_index octets 1) (take (size - 4) (drop 4 octets)))
unfolding packet_in
good_is_some octets size four is low there high =
    let l : nat_le 4 (length_field octets) ≡ true = grind (arith, nat_tests) in
    let t : nat_le (length_field octets) (length octets) ≡ true = grind (arith, nat_tests) in
    let h : nat_le (length_field octets) 1508 ≡ true = grind (arith, nat_tests) in
    rw (enough octets four, l, t, h) (ap (λ n. Some (packet_of (slice_index octets 0) (slice_index octets 1) (take (n - 4) (drop 4 octets)))) (sym is))
