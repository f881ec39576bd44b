-- The words of octets, and the register behind several octets at once.
use Rattle.std.proofs.Common.{◌≡◌, ℕ, zero, suc, ◌+◌, ◌*◌, ◌/◌, ◌%◌, ◌^◌, ◌<◌, ◌==◌, ◌⊎◌, inl, inr, true, false, List, [], ◌∷◌, cond, length, map, replicate, get_or, refl, sym, ap, ◌∙◌, arith, lit<}
use Rattle.std.specs.Prelude.{bit_xor, fold}
use Rattle.std.specs.List.{range_with_len, AllByRecursion}
use Rattle.std.specs.Int.Bits.{xor_self, xor_zero_l, xor_zero_r, xor_assoc, xor_shifted}
use Rattle.std.proofs.Math.Nat.{pow-succ'}
use Rattle.std.proofs.lemmas.Nat.{xor_shr, xor_mod, xor_comm, xor_of_8, xor_of_16}
use Rattle.std.proofs.lemmas.List.{length-map, get_or-map}
use Rattle.std.proofs.lemmas.List.FromFn.{get_or-map-range_with_len}
use Rattle.ppp_hdlc.specs.Residue.{bits, number, word_of}
use Rattle.ppp_hdlc.specs.Register.{taken, register_after}
use Rattle.ppp_hdlc.specs.declared.words.TheConstants.{WORDS}
use Rattle.ppp_hdlc.proofs.Bits.{bits-zero, number-bits}
use Rattle.ppp_hdlc.proofs.Division.{next_register, taken-bits, taken-octet, after-one, after-none, after-append, after-below, word-after}

-- a bit of 0 is taken
shifted : ℕ → ℕ
shifted x = cond (x % 2 == 1) (bit_xor (x / 2) 0x8408) (x / 2)

rounds : ℕ → ℕ → ℕ
rounds zero x = x
rounds (suc k) x = rounds k (shifted x)

-- the bits of an octet are taken
run : ℕ → ℕ → ℕ → ℕ
run zero register octet = register
run (suc k) register octet = run k (next_register register octet) (octet / 2)

xor-back : (a b : ℕ) → bit_xor (bit_xor a b) b ≡ a
xor-back a b = xor_assoc a b b ∙ ap (λ n. bit_xor a n) (xor_self b) ∙ xor_zero_r a

xor-swap : (a b c : ℕ) → bit_xor (bit_xor a b) c ≡ bit_xor (bit_xor a c) b
xor-swap a b c = xor_assoc a b c ∙ ap (λ n. bit_xor a n) (xor_comm b c) ∙ sym (xor_assoc a c b)

-- to take a bit is to add it, and to take a bit of 0
mixed : (register octet : ℕ) → bit_xor (next_register register octet) (octet / 2) ≡ shifted (bit_xor register octet)
unfolding shifted
mixed register octet =
    rw (xor_shr register octet 1)
    (elim (bit_xor register octet % 2 == 1) as (λ b. bit_xor (cond b (bit_xor (register / 2) 0x8408) (register / 2)) (octet / 2) ≡ cond b (bit_xor (bit_xor (register / 2) (octet / 2)) 0x8408) (bit_xor (register / 2) (octet / 2)))
    [ true ↦ xor-swap (register / 2) 0x8408 (octet / 2) | false ↦ refl ])

run-is : (k register octet : ℕ) → octet < 2 ^ k → run k register octet ≡ rounds k (bit_xor register octet)
unfolding run rounds
run-is zero register octet below = let none : octet ≡ 0 = omega arith in rw none (sym (xor_zero_r register))
run-is (suc k) register octet below = run-is k (next_register register octet) (octet / 2) (omega (arith, pow-succ' 2 k)) ∙ ap (λ x. rounds k x) (mixed register octet)

next-below : (register octet : ℕ) → register < 2 ^ 16 → next_register register octet < 2 ^ 16
next-below register octet below =
    elim (bit_xor register octet % 2 == 1) as (λ b. cond b (bit_xor (register / 2) 0x8408) (register / 2) < 2 ^ 16) [ true ↦ xor_of_16 (register / 2) 0x8408 (omega arith) (lit< tt) | false ↦ omega arith ]

run-bits : (k register octet : ℕ) → register < 2 ^ 16 → fold taken (bits 16 register) (bits k octet) ≡ bits 16 (run k register octet)
unfolding run
run-bits zero register octet below = ap (λ bs. fold taken (bits 16 register) bs) (bits-zero octet)
run-bits (suc k) register octet below =
    sym (taken-octet k register (next_register register octet) octet (sym (taken-bits register octet below)))
    ∙ run-bits k (next_register register octet) (octet / 2) (next-below register octet below)

run-below : (k register octet : ℕ) → register < 2 ^ 16 → run k register octet < 2 ^ 16
unfolding run
run-below zero register octet below = below
run-below (suc k) register octet below = run-below k (next_register register octet) (octet / 2) (next-below register octet below)

-- an octet is taken: it is added, and eight bits of 0 are
turned : ℕ → ℕ
turned x = rounds 8 x

after-turned : (register octet : ℕ) → register < 2 ^ 16 → octet < 256 → register_after register (octet ∷ []) ≡ turned (bit_xor register octet)
unfolding turned
after-turned register octet below small =
    after-one register octet ∙ ap number (run-bits 8 register octet below) ∙ number-bits 16 (run 8 register octet) (run-below 8 register octet below) ∙ run-is 8 register octet small

-- sums go through
shifted-xor : (x y : ℕ) → shifted (bit_xor x y) ≡ bit_xor (shifted x) (shifted y)
unfolding shifted
shifted-xor x y =
    rw (xor_shr x y 1, xor_mod x y 1)
    (elim (two x) [
      | inl x0 ↦ elim (two y) [
        | inl y0 ↦ rw (x0, y0) refl
        | inr y1 ↦ rw (x0, y1) (xor_assoc (x / 2) (y / 2) 0x8408)
      ]
      | inr x1 ↦ elim (two y) [
        | inl y0 ↦ rw (x1, y0) (xor-swap (x / 2) (y / 2) 0x8408)
        | inr y1 ↦ rw (x1, y1) (both (x / 2) (y / 2))
      ]
    ])
  where
    two : (n : ℕ) → (n % 2 ≡ 0) ⊎ (n % 2 ≡ 1)
    two n = grind arith

    both : (a b : ℕ) → bit_xor a b ≡ bit_xor (bit_xor a 0x8408) (bit_xor b 0x8408)
    both a b = sym (sym (xor_assoc (bit_xor a 0x8408) b 0x8408) ∙ ap (λ n. bit_xor n 0x8408) (xor-swap a 0x8408 b) ∙ xor-back (bit_xor a b) 0x8408)

rounds-xor : (k x y : ℕ) → rounds k (bit_xor x y) ≡ bit_xor (rounds k x) (rounds k y)
unfolding rounds
rounds-xor zero x y = refl
rounds-xor (suc k) x y = ap (λ n. rounds k n) (shifted-xor x y) ∙ rounds-xor k (shifted x) (shifted y)

turned-xor : (x y : ℕ) → turned (bit_xor x y) ≡ bit_xor (turned x) (turned y)
unfolding turned
turned-xor x y = rounds-xor 8 x y

-- the bits above only move down
shifted-double : (n : ℕ) → shifted (2 * n) ≡ n
unfolding shifted
shifted-double n =
    let even : 2 * n % 2 ≡ 0 = omega arith in
    rw even (omega arith)

rounds-high : (k h : ℕ) → rounds k (h * 2 ^ k) ≡ h
unfolding rounds
rounds-high zero h = omega arith
rounds-high (suc k) h =
    let twice : h * 2 ^ suc k ≡ 2 * (h * 2 ^ k) = doubled h (2 ^ k) (2 ^ suc k) (pow-succ' 2 k) in
    ap (λ n. rounds k n) (ap (λ n. shifted n) twice ∙ shifted-double (h * 2 ^ k)) ∙ rounds-high k h
  where
    doubled : (h a b : ℕ) → b ≡ 2 * a → h * b ≡ 2 * (h * a)
    doubled h a b e = rw e (omega arith)

turned-high : (h : ℕ) → turned (h * 2 ^ 8) ≡ h
unfolding turned
turned-high h = rounds-high 8 h

-- octets of 0 are taken
turns : ℕ → ℕ → ℕ
turns zero x = x
turns (suc k) x = turns k (turned x)

turns-xor : (k x y : ℕ) → turns k (bit_xor x y) ≡ bit_xor (turns k x) (turns k y)
unfolding turns
turns-xor zero x y = refl
turns-xor (suc k) x y = ap (λ n. turns k n) (turned-xor x y) ∙ turns-xor k (turned x) (turned y)

-- octets are taken
through : ℕ → List ℕ → ℕ
through register [] = register
through register (x ∷ xs) = through (turned (bit_xor register x)) xs

after-through : (register : ℕ) (xs : List ℕ) → register < 2 ^ 16 → AllByRecursion (λ x. x < 256) xs → register_after register xs ≡ through register xs
unfolding through
after-through register [] below octets = after-none register below
after-through register (x ∷ xs) below octets =
    sym (after-append register (x ∷ []) xs)
    ∙ after-through (register_after register (x ∷ [])) xs (after-below register (x ∷ [])) octets.1
    ∙ ap (λ r. through r xs) (after-turned register x below octets.0)

through-xor : (r s : ℕ) (xs : List ℕ) → through (bit_xor r s) xs ≡ bit_xor (turns (length xs) r) (through s xs)
unfolding through turns
through-xor r s [] = refl
through-xor r s (x ∷ xs) =
    ap (λ n. through n xs) (ap (λ n. turned n) (xor_assoc r s x) ∙ turned-xor r (bit_xor s x))
    ∙ through-xor (turned r) (turned (bit_xor s x)) xs

through-zeros : (k register : ℕ) → through register (replicate k 0) ≡ turns k register
unfolding through turns
through-zeros zero register = refl
through-zeros (suc k) register = ap (λ n. through (turned n) (replicate k 0)) (xor_zero_r register) ∙ through-zeros k (turned register)

zeros-octets : (k : ℕ) → AllByRecursion (λ x. x < 256) (replicate k 0)
zeros-octets zero = tt
zeros-octets (suc k) = (lit< tt, zeros-octets k)

word-turns : (k x : ℕ) → x < 256 → word_of (x ∷ replicate k 0) ≡ turns (suc k) x
unfolding through turns
word-turns k x small =
    word-after (x ∷ replicate k 0)
    ∙ after-through 0 (x ∷ replicate k 0) (lit< tt) (small, zeros-octets k)
    ∙ ap (λ n. through (turned n) (replicate k 0)) (xor_zero_l x)
    ∙ through-zeros k (turned x)

-- the first of these octets has a word of its own
through-word : (x : ℕ) (xs : List ℕ) → through 0 (x ∷ xs) ≡ bit_xor (turns (suc (length xs)) x) (through 0 xs)
unfolding through turns
through-word x xs =
    ap (λ n. through (turned n) xs) (xor_zero_l x)
    ∙ ap (λ n. through n xs) (sym (xor_zero_r (turned x)))
    ∙ through-xor (turned x) 0 xs

-- a register in two octets
halves : (register : ℕ) → register ≡ bit_xor (register % 256) (register / 256 * 2 ^ 8)
halves register =
    let low : register % 256 < 2 ^ 8 = omega arith in
    whole register ∙ sym (xor_shifted (register / 256) 8 (register % 256) low) ∙ xor_comm (register / 256 * 2 ^ 8) (register % 256)
  where
    whole : (x : ℕ) → x ≡ x / 256 * 2 ^ 8 + x % 256
    whole x = omega arith

turned-halves : (register x : ℕ) → turned (bit_xor register x) ≡ bit_xor (turned (bit_xor (register % 256) x)) (register / 256)
turned-halves register x =
    ap (λ n. turned (bit_xor n x)) (halves register)
    ∙ ap (λ n. turned n) (xor-swap (register % 256) (register / 256 * 2 ^ 8) x)
    ∙ turned-xor (bit_xor (register % 256) x) (register / 256 * 2 ^ 8)
    ∙ ap (λ n. bit_xor (turned (bit_xor (register % 256) x)) n) (turned-high (register / 256))

-- the register is added to the first two octets
through-first : (register a b : ℕ) (xs : List ℕ) → through register (a ∷ b ∷ xs) ≡ through 0 (bit_xor (register % 256) a ∷ bit_xor (register / 256) b ∷ xs)
unfolding through
through-first register a b xs =
    ap (λ n. through (turned (bit_xor n b)) xs) (turned-halves register a)
    ∙ ap (λ n. through (turned n) xs) (xor_assoc (turned (bit_xor (register % 256) a)) (register / 256) b)
    ∙ ap (λ n. through (turned (bit_xor (turned n) (bit_xor (register / 256) b))) xs) (sym (xor_zero_l (bit_xor (register % 256) a)))

-- the register behind an octet, by the table
pub after-word : (register octet : ℕ) → register < 2 ^ 16 → octet < 256
    → register_after register (octet ∷ []) ≡ bit_xor (word_of (bit_xor (register % 256) octet ∷ [])) (register / 256)
unfolding turns
after-word register octet below small =
    after-turned register octet below small
    ∙ turned-halves register octet
    ∙ ap (λ n. bit_xor n (register / 256)) (sym (word-turns 0 (bit_xor (register % 256) octet) (xor_of_8 (register % 256) octet (omega arith) small)))

-- the words of eight octets, added up from the left
eight-words : (a b c d e f g h : ℕ) → through 0 (a ∷ b ∷ c ∷ d ∷ e ∷ f ∷ g ∷ h ∷ [])
    ≡ bit_xor (bit_xor (bit_xor (bit_xor (bit_xor (bit_xor (bit_xor (turns 8 a) (turns 7 b)) (turns 6 c)) (turns 5 d)) (turns 4 e)) (turns 3 f)) (turns 2 g)) (turns 1 h)
unfolding through
eight-words a b c d e f g h =
    through-word a (b ∷ c ∷ d ∷ e ∷ f ∷ g ∷ h ∷ [])
    ∙ ap (λ n. bit_xor (turns 8 a) n) (through-word b (c ∷ d ∷ e ∷ f ∷ g ∷ h ∷ []))
    ∙ sym (xor_assoc (turns 8 a) (turns 7 b) (through 0 (c ∷ d ∷ e ∷ f ∷ g ∷ h ∷ [])))
    ∙ more c (d ∷ e ∷ f ∷ g ∷ h ∷ []) _
    ∙ more d (e ∷ f ∷ g ∷ h ∷ []) _
    ∙ more e (f ∷ g ∷ h ∷ []) _
    ∙ more f (g ∷ h ∷ []) _
    ∙ more g (h ∷ []) _
    ∙ more h [] _
    ∙ xor_zero_r _
  where
    more : (x : ℕ) (xs : List ℕ) (front : ℕ) → bit_xor front (through 0 (x ∷ xs)) ≡ bit_xor (bit_xor front (turns (suc (length xs)) x)) (through 0 xs)
    more x xs front = ap (λ n. bit_xor front n) (through-word x xs) ∙ sym (xor_assoc front (turns (suc (length xs)) x) (through 0 xs))

pub after-eight : (register a b c d e f g h : ℕ) → register < 2 ^ 16 → AllByRecursion (λ x. x < 256) (a ∷ b ∷ c ∷ d ∷ e ∷ f ∷ g ∷ h ∷ [])
    → bit_xor (bit_xor (bit_xor (bit_xor (bit_xor (bit_xor (bit_xor
    (word_of (bit_xor (register % 256) a ∷ replicate 7 0))
    (word_of (bit_xor (register / 256) b ∷ replicate 6 0)))
    (word_of (c ∷ replicate 5 0))) (word_of (d ∷ replicate 4 0))) (word_of (e ∷ replicate 3 0))) (word_of (f ∷ replicate 2 0))) (word_of (g ∷ replicate 1 0))) (word_of (h ∷ []))
    ≡ register_after register (a ∷ b ∷ c ∷ d ∷ e ∷ f ∷ g ∷ h ∷ [])
after-eight register a b c d e f g h below octets =
    let first : bit_xor (register % 256) a < 256 = xor_of_8 (register % 256) a (omega arith) octets.0 in
    let second : bit_xor (register / 256) b < 256 = xor_of_8 (register / 256) b (omega arith) octets.1.0 in
    rw (
      word-turns 7 (bit_xor (register % 256) a) first,
      word-turns 6 (bit_xor (register / 256) b) second,
      word-turns 5 c octets.1.1.0,
      word-turns 4 d octets.1.1.1.0,
      word-turns 3 e octets.1.1.1.1.0,
      word-turns 2 f octets.1.1.1.1.1.0,
      word-turns 1 g octets.1.1.1.1.1.1.0,
      word-turns 0 h octets.1.1.1.1.1.1.1.0,
    )
    (
    sym (eight-words (bit_xor (register % 256) a) (bit_xor (register / 256) b) c d e f g h)
    ∙ sym (through-first register a b (c ∷ d ∷ e ∷ f ∷ g ∷ h ∷ []))
    ∙ sym (after-through register (a ∷ b ∷ c ∷ d ∷ e ∷ f ∷ g ∷ h ∷ []) below octets)
    )

-- the table: each row is what the row before leaves behind one more octet of 0
rows : ℕ → List ℕ → List (List ℕ)
rows zero row = []
rows (suc n) row = row ∷ rows n (map (λ x. turned x) row)

words-are : WORDS ≡ rows 8 (map (λ x. turned x) (range_with_len 0 256))
unfolding rows turned rounds shifted
words-are = refl

rows-at : (n k i : ℕ) (row : List ℕ) → k < n → i < length row → get_or (get_or (rows n row) k []) i 0 ≡ turns k (get_or row i 0)
unfolding rows turns
rows-at zero k i row few within = absurd (omega arith)
rows-at (suc n) zero i row few within = refl
rows-at (suc n) (suc k) i row few within =
    rows-at n k i (map (λ x. turned x) row) (omega arith) (omega (arith, length-map row (λ x. turned x)))
    ∙ ap (λ x. turns k x) (get_or-map (λ x. turned x) row i 0 0 within)

pub word-at : (k i : ℕ) → k < 8 → i < 256 → get_or (get_or WORDS k []) i 0 ≡ word_of (i ∷ replicate k 0)
unfolding turns
word-at k i few small =
    ap (λ l. get_or (get_or l k []) i 0) words-are
    ∙ rows-at 8 k i (map (λ x. turned x) (range_with_len 0 256)) few small
    ∙ ap (λ x. turns k x) (get_or-map-range_with_len (λ x. turned x) 0 256 i i 0 small (omega arith))
    ∙ sym (word-turns k i small)

pub eight-of : (register : ℕ) (xs : List ℕ) → length xs ≡ 8 → register < 2 ^ 16 → ((k : ℕ) → get_or xs k 0 < 256)
    → bit_xor (bit_xor (bit_xor (bit_xor (bit_xor (bit_xor (bit_xor
    (word_of (bit_xor (register % 256) (get_or xs 0 0) ∷ replicate 7 0))
    (word_of (bit_xor (register / 256) (get_or xs 1 0) ∷ replicate 6 0)))
    (word_of (get_or xs 2 0 ∷ replicate 5 0))) (word_of (get_or xs 3 0 ∷ replicate 4 0))) (word_of (get_or xs 4 0 ∷ replicate 3 0)))
    (word_of (get_or xs 5 0 ∷ replicate 2 0))) (word_of (get_or xs 6 0 ∷ replicate 1 0))) (word_of (get_or xs 7 0 ∷ []))
    ≡ register_after register xs
eight-of register [] long below octets = absurd (omega arith)
eight-of register (a ∷ []) long below octets = absurd (omega arith)
eight-of register (a ∷ b ∷ []) long below octets = absurd (omega arith)
eight-of register (a ∷ b ∷ c ∷ []) long below octets = absurd (omega arith)
eight-of register (a ∷ b ∷ c ∷ d ∷ []) long below octets = absurd (omega arith)
eight-of register (a ∷ b ∷ c ∷ d ∷ e ∷ []) long below octets = absurd (omega arith)
eight-of register (a ∷ b ∷ c ∷ d ∷ e ∷ f ∷ []) long below octets = absurd (omega arith)
eight-of register (a ∷ b ∷ c ∷ d ∷ e ∷ f ∷ g ∷ []) long below octets = absurd (omega arith)
eight-of register (a ∷ b ∷ c ∷ d ∷ e ∷ f ∷ g ∷ h ∷ []) long below octets =
    after-eight register a b c d e f g h below (octets 0, (octets 1, (octets 2, (octets 3, (octets 4, (octets 5, (octets 6, (octets 7, tt))))))))
eight-of register (a ∷ b ∷ c ∷ d ∷ e ∷ f ∷ g ∷ h ∷ i ∷ xs) long below octets = absurd (omega arith)
