-- How far pieces of one size reach.
use Rattle.std.proofs.Common.{◌≡◌, ℕ, suc, ◌+◌, ◌-◌, ◌*◌, ◌/◌, ◌%◌, ◌<◌, ◌≤◌, min, subst, slice_index_or, List, [], ◌∷◌, length, arith, inl, inr}
use Rattle.std.specs.List.{fold}
use Rattle.std.proofs.Math.Nat.{mul-le-mul_right, mul-le-mul_left, mul_comm, mul-suc, zero-mul}
use Rattle.ppp_mp.specs.Members.{AreMembers}
use Rattle.std.proofs.lemmas.Bool.Decides.{nat_tests}
use Rattle.std.proofs.lemmas.Bool.{cases_lt}
use Rattle.ppp_mp.specs.declared.members.MemberView.{MemberView}
use Rattle.ppp_mp.specs.declared.cuts.CutPiece.{CutPiece}
use Rattle.ppp_mp.specs.Cut.{Cut, IsPiece, share, least_mru, piece_size}

fold-wide : (members : List MemberView) (low most : ℕ) → 128 ≤ most → AreMembers low members → 128 ≤ fold (λ least (member : MemberView). min least member.mru) most members
fold-wide [] low most wide all = wide
fold-wide (member ∷ members) low most wide all = fold-wide members member.link (min most member.mru) (let here : 128 ≤ member.mru = all.2 in omega arith) all.4

pub least-wide : (members : List MemberView) → AreMembers 0 members → 128 ≤ least_mru members
least-wide members all = fold-wide members 0 65535 (omega arith) all

divided : (len members : ℕ) → 0 < len → 0 < members → members ≤ 16 → (0 < (len + members - 1) / members) × (len ≤ 17 * ((len + members - 1) / members))
divided len members some members_some few =
    let q : ℕ = (len + members - 1) / members in
    let whole : members * ((len + members - 1) / members) + (len + members - 1) % members ≡ len + members - 1 = omega arith in
    let rest : (len + members - 1) % members < members = omega arith in
    let most : members * ((len + members - 1) / members) ≤ 16 * ((len + members - 1) / members) = mul-le-mul_right ((len + members - 1) / members) few in
    (omega arith, omega arith)

pub share-reaches : (len members : ℕ) → 0 < len → 0 < members → members ≤ 16 → (0 < share len members) × (len ≤ 17 * share len members)
share-reaches len members some members_some few = let both = divided len members some members_some few in (grind (arith, nat_tests), grind (arith, nat_tests))

counted : (len size : ℕ) → 0 < size → (size * ((len + size - 1) / size) ≤ len + size - 1) × (len ≤ size * ((len + size - 1) / size))
counted len size some =
    let whole : size * ((len + size - 1) / size) + (len + size - 1) % size ≡ len + size - 1 = omega arith in
    let rest : (len + size - 1) % size < size = omega arith in
    (omega arith, omega arith)

-- how many pieces of a size there are
pub count-within : (len size : ℕ) → 0 < size → len ≤ 17 * size → (len + size - 1) / size ≤ 17
count-within len size some reaches =
    let whole = counted len size some in
    elim (cases_lt ((len + size - 1) / size) 18) [
      | inl below ↦ omega arith
      | inr past ↦ let more : size * 18 ≤ size * ((len + size - 1) / size) = mul-le-mul_left size past in absurd (omega (arith, whole.0))
    ]

pub count-ends : (len size : ℕ) → 0 < size → len ≤ ((len + size - 1) / size) * size
count-ends len size some = rw (mul_comm ((len + size - 1) / size) size) (counted len size some).1

pub none-empty : (len size j : ℕ) → 0 < size → j < (len + size - 1) / size → j * size < len
none-empty len size j some below =
    let whole = counted len size some in
    let more : size * suc j ≤ size * ((len + size - 1) / size) = mul-le-mul_left size below in
    let split : size * suc j ≡ size * j + size = mul-suc size j in
    rw (mul_comm j size) (omega (arith, whole.0))

pub is_cut : (header : ℕ) → (len : ℕ) (members members' : List MemberView) (turn size j : ℕ) (pieces : List CutPiece) → members' ≡ members → size ≡ piece_size header len members' → 0 < size → 0 < len
    → length pieces ≡ j → j ≡ (len + size - 1) / size → ((k : ℕ) → k < j → (other : CutPiece) → IsPiece len members' turn size k (slice_index_or pieces k other))
    → Cut header len members turn pieces
is_cut header len members members' turn size j pieces same size_is some len_some count whole each =
    let P : ℕ → Type 0 = λ n. ((k : ℕ) → k < length pieces → (other : CutPiece) → IsPiece len members turn n k (slice_index_or pieces k other)) × (len ≤ length pieces * n) × ((length pieces - 1) * n < len) in
    let reaches : len ≤ length pieces * size = rw (count, whole) (count-ends len size some) in
    let last : (length pieces - 1) * size < len = elim (cases_lt 0 (length pieces)) [
      | inl more ↦ none-empty len size (length pieces - 1) some (rw (← whole, ← count) (omega arith))
      | inr none ↦ let zero_is : length pieces ≡ 0 = omega arith in let e : length pieces * size ≡ 0 = rw zero_is (zero-mul size) in absurd (omega arith)
    ] in
    let all : P size = ((λ k below other. rw (← same) (each k (omega arith) other)), reaches, last) in
    let now : size ≡ piece_size header len members = rw (← same) size_is in
    let parts : P (piece_size header len members) = subst P now all in
    record { each = parts.0; ends = parts.1; none_empty = parts.2 }
