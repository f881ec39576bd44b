-- What pieces take, and the pieces of heads, sizes and octets that stand one behind the other.
use Rattle.std.proofs.Common.{◌≡◌, ◌≤◌, ◌<◌, ◌+◌, ◌-◌, ◌*◌, ℕ, List, [], ◌∷◌, ◌++◌, length, take, drop, true, false, refl, ap, sym, ◌∙◌, arith, length-append, length-take-le, length-drop, suc, min}
use Rattle.std.proofs.lemmas.Bool.Decides.{nat_tests}
use native.Mathlib.Nat.{lt_of_mul-lt-mul_left}
use Rattle.circular_buffer.specs.Buffer.{keep_last}
use Rattle.std.proofs.lemmas.List.{drop-append-le, take-append-le, take_all}
use Rattle.ppp_ring.specs.Pieces.{AreKept, AreSmall, Piece, fits, pieces_of, taken_by, total}

taken-append : {T : Type 0} (beside : ℕ) (xs ys : List (Piece T)) → taken_by beside (xs ++ ys) ≡ taken_by beside xs + taken_by beside ys
taken-append beside [] ys = grind arith
taken-append beside (x ∷ xs) ys = rw (taken-append beside xs ys) (grind arith)

total-append : (xs : List ℕ) (n : ℕ) → total (xs ++ n ∷ []) ≡ total xs + n
total-append [] n = grind arith
total-append (x ∷ xs) n = rw (total-append xs n) (grind arith)

small-append : (most : ℕ) (xs : List ℕ) (n : ℕ) → n ≤ most → AreSmall most xs → AreSmall most (xs ++ n ∷ [])
small-append most [] n le s = (le, tt)
small-append most (x ∷ xs) n le s = (s.0, small-append most xs n le s.1)

rest_sum : (size : ℕ) (sizes octets : List ℕ) → length octets ≡ size + total sizes → length (drop size octets) ≡ total sizes
rest_sum size sizes octets e = length-drop size octets ∙ grind (arith, e)

-- Pieces take their octets, and what each takes beside them.
taken-is : {T : Type 0} (beside : ℕ) (heads : List T) (sizes octets : List ℕ) → length heads ≡ length sizes → length octets ≡ total sizes
    → taken_by beside (pieces_of heads sizes octets) ≡ beside * length sizes + length octets
taken-is beside [] [] octets same sum = grind (arith, sum)
taken-is beside [] (size ∷ sizes) octets same sum = absurd (let x : 0 ≡ suc (length sizes) = same in grind arith)
taken-is beside (head ∷ heads) [] octets same sum = absurd (let x : suc (length heads) ≡ 0 = same in grind arith)
taken-is beside (head ∷ heads) (size ∷ sizes) octets same sum =
    let rest : taken_by beside (pieces_of heads sizes (drop size octets)) ≡ beside * length sizes + length (drop size octets)
    = taken-is beside heads sizes (drop size octets) (let x : suc (length heads) ≡ suc (length sizes) = same in grind arith) (rest_sum size sizes octets sum) in
    rw (rest, rest_sum size sizes octets sum, length-take-le size octets (grind (arith, sum))) (rw (sum) (grind arith))

-- One more stands behind the others.
pub pieces-append : {T : Type 0} (heads : List T) (head : T) (sizes octets more : List ℕ) → length heads ≡ length sizes → length octets ≡ total sizes
    → pieces_of (heads ++ head ∷ []) (sizes ++ length more ∷ []) (octets ++ more) ≡ pieces_of heads sizes octets ++ record { head = head; octets = more } ∷ []
pieces-append [] head [] [] more same sum = rw (take_all (length more) more (grind arith)) refl
pieces-append [] head [] (octet ∷ octets) more same sum = absurd (let x : suc (length octets) ≡ 0 = sum in grind arith)
pieces-append [] head (size ∷ sizes) octets more same sum = absurd (let x : 0 ≡ suc (length sizes) = same in grind arith)
pieces-append (h ∷ heads) head [] octets more same sum = absurd (let x : suc (length heads) ≡ 0 = same in grind arith)
pieces-append (h ∷ heads) head (size ∷ sizes) octets more same sum =
    rw (
      take-append-le size octets more (grind (arith, sum)),
      drop-append-le size octets more (grind (arith, sum)),
      pieces-append heads head sizes (drop size octets) more (let x : suc (length heads) ≡ suc (length sizes) = same in grind arith) (rest_sum size sizes octets sum),
    ) refl

-- with one more behind them
room-is : {T : Type 0} (beside : ℕ) (heads : List T) (head : T) (sizes octets more : List ℕ) → length heads ≡ length sizes → length octets ≡ total sizes
    → taken_by beside (pieces_of heads sizes octets ++ record { head = head; octets = more } ∷ []) ≡ beside * length sizes + length octets + (beside + length more)
room-is beside heads head sizes octets more same sum =
    taken-append beside (pieces_of heads sizes octets) (record { head = head; octets = more } ∷ [])
    ∙ rw (taken-is beside heads sizes octets same sum) (grind arith)

-- Where there is less room than one more takes, it doesn't fit.
pub no_room : {T : Type 0} (largest beside most : ℕ) (heads : List T) (head : T) (sizes octets more : List ℕ) → AreKept largest beside most heads sizes octets
    → most - (beside * length sizes + length octets) < beside + length more
    → fits (record { head = head; octets = more }) (record { waiting = pieces_of heads sizes octets; beside = beside; most = most }) ≡ false
no_room largest beside most heads head sizes octets more k less =
    rw (room-is beside heads head sizes octets more k.as_many k.sum) (let within = k.within in grind (arith, nat_tests))

pub has_room : {T : Type 0} (largest beside most : ℕ) (heads : List T) (head : T) (sizes octets more : List ℕ) → AreKept largest beside most heads sizes octets
    → beside + length more ≤ most - (beside * length sizes + length octets)
    → fits (record { head = head; octets = more }) (record { waiting = pieces_of heads sizes octets; beside = beside; most = most }) ≡ true
has_room largest beside most heads head sizes octets more k enough =
    rw (room-is beside heads head sizes octets more k.as_many k.sum) (let within = k.within in let some = k.some in grind (arith, nat_tests))

-- As many pieces wait as there are heads.
pub as_many_wait : {T : Type 0} (heads : List T) (sizes octets : List ℕ) → length heads ≡ length sizes → length (pieces_of heads sizes octets) ≡ length heads
as_many_wait [] sizes octets same = refl
as_many_wait (head ∷ heads) [] octets same = absurd (let x : suc (length heads) ≡ 0 = same in grind arith)
as_many_wait (head ∷ heads) (size ∷ sizes) octets same =
    ap suc (as_many_wait heads sizes (drop size octets) (let x : suc (length heads) ≡ suc (length sizes) = same in grind arith))

more_by : {A : Type 0} (xs : List A) (x : A) → length (xs ++ x ∷ []) ≡ length xs + 1
more_by xs x = length-append xs (x ∷ [])

-- With one more that fits they belong together.
pub kept : {T : Type 0} (largest beside most : ℕ) (heads : List T) (head : T) (sizes octets more : List ℕ) → AreKept largest beside most heads sizes octets → length more ≤ largest
    → beside + length more ≤ most - (beside * length sizes + length octets)
    → AreKept largest beside most (heads ++ head ∷ []) (sizes ++ length more ∷ []) (octets ++ more)
kept largest beside most heads head sizes octets more k small enough = record {
  as_many = more_by heads head ∙ (ap (λ (n : ℕ). n + 1) k.as_many ∙ sym (more_by sizes (length more)));
  sum = length-append octets more ∙ (ap (λ (n : ℕ). n + length more) k.sum ∙ sym (total-append sizes (length more)));
  small = small-append largest sizes (length more) small k.small;
  some = k.some;
  within = rw (more_by sizes (length more), length-append octets more) (let within = k.within in let some = k.some in grind (arith, enough));
}

-- There is a place for one more head.
pub place : (beside most count capacity octets more : ℕ) → 1 ≤ beside → most ≤ capacity * beside → beside * count + octets ≤ most → beside + more ≤ most - (beside * count + octets) → count + 1 ≤ capacity
place beside most count capacity octets more some room within enough =
    let below : beside * count < beside * capacity = grind (arith, some, room, within, enough) in
    let less : count < capacity = lt_of_mul-lt-mul_left beside below in grind (arith, less)

-- Nothing is pushed out where there is a place.
pub kept_last : {A : Type 0} (capacity : ℕ) (xs : List A) (x : A) → length xs + 1 ≤ capacity → keep_last capacity (xs ++ x ∷ []) ≡ xs ++ x ∷ []
kept_last capacity xs x le =
    let none : length (xs ++ x ∷ []) - capacity ≡ 0 = let long = more_by xs x in omega (arith, long, le) in ap (λ (n : ℕ). drop n (xs ++ x ∷ [])) none

-- All octets are appended where there is room for all.
pub taken_whole : (octets more : List ℕ) (count free : ℕ) → count ≡ min (length more) free → length more ≤ free → octets ++ take count more ≡ octets ++ more
taken_whole octets more count free is enough = ap (λ (l : List ℕ). octets ++ l) (take_all count more (omega (arith, is)))
