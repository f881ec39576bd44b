-- The register is what the long division leaves.
use Rattle.std.proofs.Common.{◌≡◌, ℕ, zero, suc, ◌+◌, ◌/◌, ◌%◌, ◌^◌, ◌<◌, ◌==◌, Bool, true, false, not, cond, List, [], ◌∷◌, ◌++◌, length, map, take, drop, replicate, refl, sym, ap, ◌∙◌, arith, length-append, append_assoc, append-nil, length-take-le, take-append-drop}
use Rattle.std.proofs.Math.Seq.{take-add}
use Rattle.std.proofs.lemmas.List.{length-map}
use Rattle.std.proofs.lemmas.List.Sums.{fold-append}
use Rattle.std.proofs.lemmas.Grind.{flat_map-append}
use Rattle.std.specs.Prelude.{bit_xor, fold, flat_map}
use Rattle.ppp_hdlc.specs.Residue.{bits, number, xor, plus, zeros, divisor, bring_down, remainder, with_first_complemented, Residue, word_of}
use Rattle.ppp_hdlc.specs.Register.{taken, register_after}
use Rattle.ppp_hdlc.proofs.Bits.{bits-suc, length-bits, bits-more, number-bits, bits-number, number-below, low_xor, plus-nil, plus-cons, plus-bits, plus-zeros, plus-none, plus-ones, plus-append, plus-swap, length-plus}

divisor-bits : divisor ≡ bits 16 0x8408
unfolding divisor bits
divisor-bits = refl

pub length-divisor : length divisor ≡ 16
unfolding divisor
length-divisor = refl

pub zeros-is : zeros ≡ replicate 16 false
unfolding zeros
zeros-is = refl

pub bring_down-cons : (t : Bool) (c : List Bool) (u : Bool) → bring_down (t ∷ c) u ≡ cond t (plus (c ++ u ∷ []) divisor) (c ++ u ∷ [])
unfolding bring_down
bring_down-cons t c u = refl

taken-cons : (t : Bool) (c : List Bool) (b : Bool) → taken (t ∷ c) b ≡ cond (xor t b) (plus (c ++ false ∷ []) divisor) (c ++ false ∷ [])
unfolding taken
taken-cons t c b = refl

length-taken : (c : List Bool) (b : Bool) → length c ≡ 16 → length (taken c b) ≡ 16
length-taken [] b sixteen = absurd (omega arith)
length-taken (t ∷ c) b sixteen =
    let same : length (c ++ false ∷ []) ≡ 16 = length-append c (false ∷ []) ∙ omega arith in
    rw (taken-cons t c b)
    (elim (xor t b) as (λ v. length (cond v (plus (c ++ false ∷ []) divisor) (c ++ false ∷ [])) ≡ 16)
    [ true ↦ length-plus (c ++ false ∷ []) divisor (same ∙ sym length-divisor) ∙ same | false ↦ same ])

-- one bit: the division has sixteen bits more than the register
step : (t b u : Bool) (c w : List Bool) → length c ≡ length w → bring_down (plus (t ∷ c) (b ∷ w)) u ≡ plus (taken (t ∷ c) b) (w ++ u ∷ [])
step t b u c w same =
    let seam : plus (c ++ false ∷ []) (w ++ u ∷ []) ≡ plus c w ++ u ∷ [] = plus-append c w (false ∷ []) (u ∷ []) same ∙ ap (λ l. plus c w ++ l) (plus-cons false u [] [] ∙ ap (λ l. u ∷ l) (plus-nil [])) in
    rw (plus-cons t b c w, bring_down-cons (xor t b) (plus c w) u, taken-cons t c b)
    (elim (xor t b) as (λ v. cond v (plus (plus c w ++ u ∷ []) divisor) (plus c w ++ u ∷ []) ≡ plus (cond v (plus (c ++ false ∷ []) divisor) (c ++ false ∷ [])) (w ++ u ∷ []))
    [ true ↦ ap (λ l. plus l divisor) (sym seam) ∙ plus-swap (c ++ false ∷ []) (w ++ u ∷ []) divisor | false ↦ sym seam ])

-- the rest of a division whose next sixteen bits are w
pub ahead : (bs c w rest : List Bool) → length c ≡ 16 → length w ≡ 16 → bs ++ zeros ≡ w ++ rest → fold bring_down (plus c w) rest ≡ fold taken c bs
ahead [] c w [] sixteen wide same =
    let w_is : w ≡ zeros = sym (append-nil w) ∙ sym same in
    rw (w_is, zeros-is) (plus-zeros c 16 (omega arith))
ahead [] c w (u ∷ rest) sixteen wide same = absurd (omega (arith, ap length same, length-append w (u ∷ rest), ap length zeros-is))
ahead (b ∷ bs) [] w rest sixteen wide same = absurd (omega arith)
ahead (b ∷ bs) (t ∷ c) [] rest sixteen wide same = absurd (omega arith)
ahead (b ∷ bs) (t ∷ c) (b' ∷ w) [] sixteen wide same = absurd (omega (arith, ap length same, length-append w [], length-append bs zeros, ap length zeros-is))
ahead (b ∷ bs) (t ∷ c) (b' ∷ w) (u ∷ rest) sixteen wide same =
    let first : b ≡ b' = cc in
    let others : bs ++ zeros ≡ w ++ u ∷ rest = cc in
    let moved : bs ++ zeros ≡ (w ++ u ∷ []) ++ rest = others ∙ sym (append_assoc w (u ∷ []) rest) in
    let even : length c ≡ length w = omega arith in
    let one : bring_down (plus (t ∷ c) (b' ∷ w)) u ≡ plus (taken (t ∷ c) b) (w ++ u ∷ []) = step t b' u c w even ∙ ap (λ v. plus (taken (t ∷ c) v) (w ++ u ∷ [])) (sym first) in
    rw one (ahead bs (taken (t ∷ c) b) (w ++ u ∷ []) rest (length-taken (t ∷ c) b sixteen) (length-append w (u ∷ []) ∙ omega arith) moved)

-- the first bits are brought down as they are
brought : (k : ℕ) (p v rest : List Bool) → length v ≡ k → fold bring_down (replicate k false ++ p) (v ++ rest) ≡ fold bring_down (p ++ v) rest
brought zero p [] rest same = rw (append-nil p) refl
brought zero p (u ∷ v) rest same = absurd (omega arith)
brought (suc k) p [] rest same = absurd (omega arith)
brought (suc k) p (u ∷ v) rest same =
    ap (λ l. fold bring_down l (v ++ rest)) (bring_down-cons false (replicate k false ++ p) u ∙ append_assoc (replicate k false) p (u ∷ []))
    ∙ brought k (p ++ u ∷ []) v rest (omega arith) ∙ ap (λ l. fold bring_down l rest) (append_assoc p (u ∷ []) v)

-- the register that all of the octets leave
pub divided : (bs : List Bool) → remainder (with_first_complemented (bs ++ zeros)) ≡ fold taken (replicate 16 true) bs
unfolding remainder with_first_complemented
divided bs = through (bs ++ zeros) (take 16 (bs ++ zeros)) (drop 16 (bs ++ zeros)) (length-take-le 16 (bs ++ zeros) (omega (arith, length-append bs zeros, ap length zeros-is))) (sym (take-append-drop 16 (bs ++ zeros)))
  where
    through : (l w rest : List Bool) → length w ≡ 16 → bs ++ zeros ≡ w ++ rest → fold bring_down zeros (map not w ++ rest) ≡ fold taken (replicate 16 true) bs
    through l w rest wide same =
        ap (λ z. fold bring_down z (map not w ++ rest)) (zeros-is ∙ sym (append-nil (replicate 16 false)))
        ∙ brought 16 [] (map not w) rest (length-map w not ∙ wide)
        ∙ ap (λ z. fold bring_down z rest) (sym (plus-ones 16 w (omega arith)))
        ∙ ahead bs (replicate 16 true) w rest refl wide same

-- the same where no bit is complemented: the register begins with 0
pub divided-plainly : (bs : List Bool) → remainder (bs ++ zeros) ≡ fold taken (replicate 16 false) bs
unfolding remainder
divided-plainly bs = through (take 16 (bs ++ zeros)) (drop 16 (bs ++ zeros)) (length-take-le 16 (bs ++ zeros) (omega (arith, length-append bs zeros, ap length zeros-is))) (sym (take-append-drop 16 (bs ++ zeros)))
  where
    through : (w rest : List Bool) → length w ≡ 16 → bs ++ zeros ≡ w ++ rest → fold bring_down zeros (bs ++ zeros) ≡ fold taken (replicate 16 false) bs
    through w rest wide same =
        ap (λ l. fold bring_down zeros l) same
        ∙ ap (λ z. fold bring_down z (w ++ rest)) (zeros-is ∙ sym (append-nil (replicate 16 false)))
        ∙ brought 16 [] w rest wide
        ∙ ap (λ z. fold bring_down z rest) (sym (plus-none 16 w (omega arith)))
        ∙ ahead bs (replicate 16 false) w rest refl wide same

ones-bits : replicate 16 true ≡ bits 16 0xffff
unfolding bits
ones-bits = refl

-- the register behind a bit, as a number whose lowest bit is the highest power
abbrev pub next_register : ℕ → ℕ → ℕ
next_register register octet = cond (bit_xor register octet % 2 == 1) (bit_xor (register / 2) 0x8408) (register / 2)

pub taken-bits : (register octet : ℕ) → register < 2 ^ 16 → taken (bits 16 register) (octet % 2 == 1) ≡ bits 16 (next_register register octet)
taken-bits register octet below =
    let half : register / 2 < 2 ^ 15 = omega arith in
    let shifted : bits 15 (register / 2) ++ false ∷ [] ≡ bits 16 (register / 2) = sym (bits-more 15 (register / 2) half) in
    rw (bits-suc 15 register, taken-cons (register % 2 == 1) (bits 15 (register / 2)) (octet % 2 == 1), shifted, low_xor register octet)
    (elim (bit_xor register octet % 2 == 1) as (λ v. cond v (plus (bits 16 (register / 2)) divisor) (bits 16 (register / 2)) ≡ bits 16 (cond v (bit_xor (register / 2) 0x8408) (register / 2)))
    [ true ↦ rw divisor-bits (plus-bits 16 (register / 2) 0x8408) | false ↦ refl ])

-- the register behind some of the bits of an octet
pub taken-octet : (k register next octet : ℕ) → bits 16 next ≡ taken (bits 16 register) (octet % 2 == 1) → fold taken (bits 16 next) (bits k (octet / 2)) ≡ fold taken (bits 16 register) (bits (suc k) octet)
taken-octet k register next octet step = ap (λ c. fold taken c (bits k (octet / 2))) step ∙ ap (λ bs. fold taken (bits 16 register) bs) (sym (bits-suc k octet))

-- the register is sixteen bits
length-after : (bs c : List Bool) → length c ≡ 16 → length (fold taken c bs) ≡ 16
length-after [] c sixteen = sixteen
length-after (b ∷ bs) c sixteen = length-after bs (taken c b) (length-taken c b sixteen)

pub bits-after : (register : ℕ) (octets : List ℕ) → bits 16 (register_after register octets) ≡ fold taken (bits 16 register) (flat_map (bits 8) octets)
unfolding register_after
bits-after register octets = bits-number (fold taken (bits 16 register) (flat_map (bits 8) octets)) 16 (length-after (flat_map (bits 8) octets) (bits 16 register) (length-bits 16 register))

pub after-is : (register : ℕ) (octets : List ℕ) → register_after register octets ≡ number (fold taken (bits 16 register) (flat_map (bits 8) octets))
unfolding register_after
after-is register octets = refl

pub Residue-after : (octets : List ℕ) → Residue octets ≡ register_after 0xffff octets
unfolding Residue
Residue-after octets = ap number (divided (flat_map (bits 8) octets) ∙ ap (λ c. fold taken c (flat_map (bits 8) octets)) ones-bits) ∙ sym (after-is 0xffff octets)

zeros-bits : replicate 16 false ≡ bits 16 0
unfolding bits
zeros-bits = refl

pub word-after : (octets : List ℕ) → word_of octets ≡ register_after 0 octets
unfolding word_of
word-after octets = ap number (divided-plainly (flat_map (bits 8) octets) ∙ ap (λ c. fold taken c (flat_map (bits 8) octets)) zeros-bits) ∙ sym (after-is 0 octets)

pub after-append : (register : ℕ) (xs ys : List ℕ) → register_after (register_after register xs) ys ≡ register_after register (xs ++ ys)
after-append register xs ys =
    after-is (register_after register xs) ys
    ∙ ap number (ap (λ c. fold taken c (flat_map (bits 8) ys)) (bits-after register xs) ∙ sym (fold-append taken (bits 16 register) (flat_map (bits 8) xs) (flat_map (bits 8) ys)) ∙ ap (λ bs. fold taken (bits 16 register) bs) (sym (flat_map-append (bits 8) xs ys)))
    ∙ sym (after-is register (xs ++ ys))

pub after-below : (register : ℕ) (octets : List ℕ) → register_after register octets < 2 ^ 16
after-below register octets =
    rw after-is (number-below (fold taken (bits 16 register) (flat_map (bits 8) octets)) 16 (length-after (flat_map (bits 8) octets) (bits 16 register) (length-bits 16 register)))

pub after-none : (register : ℕ) → register < 2 ^ 16 → register_after register [] ≡ register
after-none register below = after-is register [] ∙ number-bits 16 register below

pub after-one : (register octet : ℕ) → register_after register (octet ∷ []) ≡ number (fold taken (bits 16 register) (bits 8 octet))
after-one register octet = after-is register (octet ∷ []) ∙ ap (λ bs. number (fold taken (bits 16 register) bs)) (append-nil (bits 8 octet))

-- one more part of the octets
pub after-part : (register at n : ℕ) (octets : List ℕ) → register_after (register_after register (take at octets)) (take n (drop at octets)) ≡ register_after register (take (at + n) octets)
after-part register at n octets = after-append register (take at octets) (take n (drop at octets)) ∙ ap (λ bs. register_after register bs) (sym (take-add at n octets))
