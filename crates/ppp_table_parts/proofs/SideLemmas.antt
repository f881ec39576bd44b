-- What is done to what waits for links.
use Rattle.std.proofs.Common.{◌≡◌, ◌≤◌, ◌<◌, ◌+◌, ◌-◌, ℕ, zero, suc, min, List, [], ◌∷◌, length, drop, slice_set, slice_index_or, refl, ap, ◌∙◌, arith}
use Rattle.ppp_table_parts.specs.Side.{SideState, frames_size, idle}
use Rattle.ppp_table_parts.specs.declared.head.TheConstants.{MOST_POSTED}
use Rattle.ppp_table_parts.specs.Sides.{AreWithin, at_link, each_link, frames_dropped, side_of}

none_left : (n : ℕ) (sides : List SideState) → length sides ≤ n → frames_dropped (drop n sides) ≡ 0
none_left zero [] few = refl
none_left zero (side ∷ sides) few = absurd (grind arith)
none_left (suc n) [] few = refl
none_left (suc n) (side ∷ sides) few = none_left n sides (let f : suc (length sides) ≤ suc n = few in grind arith)

pub counted : (dropped n most : ℕ) (sides : List SideState) → length sides ≤ n → dropped ≤ most
    → min (dropped + frames_dropped (drop n sides)) most ≡ min (frames_dropped sides) most → dropped ≡ min (frames_dropped sides) most
counted dropped n most sides few within e = (rw (none_left n sides few) (grind arith)) ∙ e

-- what is done to the first so many
abbrev pub each_first : (ℕ → SideState → SideState) → (n link : ℕ) → List SideState → List SideState
each_first change zero link sides = sides
each_first change (suc n) link [] = []
each_first change (suc n) link (side ∷ sides) = change link side ∷ each_first change n (link + 1) sides

pub one_more : (change : ℕ → SideState → SideState) (n link : ℕ) (sides : List SideState) → n < length sides
    → slice_set (each_first change n link sides) n (change (link + n) (slice_index_or (each_first change n link sides) n idle)) ≡ each_first change (suc n) link sides
one_more change zero link [] some = absurd (grind arith)
one_more change zero link (side ∷ sides) some = rw (let e : link + 0 ≡ link = grind arith in e) refl
one_more change (suc n) link [] some = absurd (grind arith)
one_more change (suc n) link (side ∷ sides) some =
    rw (let e : link + suc n ≡ link + 1 + n = grind arith in e) (ap (λ (l : List SideState). change link side ∷ l) (one_more change n (link + 1) sides (let s : suc n < suc (length sides) = some in grind arith)))

pub all_of : (change : ℕ → SideState → SideState) (n link : ℕ) (sides : List SideState) → length sides ≡ n → each_first change n link sides ≡ each_link change link sides
all_of change zero link [] e = refl
all_of change zero link (side ∷ sides) e = absurd (let f : suc (length sides) ≡ 0 = e in grind arith)
all_of change (suc n) link [] e = refl
all_of change (suc n) link (side ∷ sides) e = ap (λ (l : List SideState). change link side ∷ l) (all_of change n (link + 1) sides (let f : suc (length sides) ≡ suc n = e in grind arith))

pub first_length : (change : ℕ → SideState → SideState) (n link : ℕ) (sides : List SideState) → length (each_first change n link sides) ≡ length sides
first_length change zero link sides = refl
first_length change (suc n) link [] = refl
first_length change (suc n) link (side ∷ sides) = ap suc (first_length change n (link + 1) sides)

-- Twice at one place is once.
set_twice : {A : Type 0} (n : ℕ) (a b d : A) (xs : List A) → n < length xs → (slice_index_or (slice_set xs n a) n d ≡ a) × (slice_set (slice_set xs n a) n b ≡ slice_set xs n b)
set_twice n a b d [] some = absurd (grind arith)
set_twice zero a b d (x ∷ xs) some = (refl, refl)
set_twice (suc n) a b d (x ∷ xs) some =
    let rest : (slice_index_or (slice_set xs n a) n d ≡ a) × (slice_set (slice_set xs n a) n b ≡ slice_set xs n b) = set_twice n a b d xs (let s : suc n < suc (length xs) = some in grind arith) in
    (rest.0, ap (λ (l : List _). x ∷ l) rest.1)

pub none_at : (link : ℕ) (sides : List SideState) → at_link link (λ side. side) sides ≡ sides
none_at link sides = same_set (link - 1) idle sides
  where
    same_set : (n : ℕ) (d : SideState) (xs : List SideState) → slice_set xs n (slice_index_or xs n d) ≡ xs
    same_set n d [] = refl
    same_set zero d (x ∷ xs) = refl
    same_set (suc n) d (x ∷ xs) = ap (λ (l : List SideState). x ∷ l) (same_set n d xs)

pub twice_at : (link : ℕ) (f g : SideState → SideState) (sides : List SideState) → link - 1 < length sides
    → at_link link g (at_link link f sides) ≡ at_link link (λ side. g (f side)) sides
twice_at link f g sides some =
    let t : _ = set_twice (link - 1) (f (side_of link sides)) (g (f (side_of link sides))) idle sides some in
    (rw t.0 refl) ∙ t.1

-- what stands at one place then
pub set_there : (link : ℕ) (f : SideState → SideState) (sides : List SideState) → link - 1 < length sides → side_of link (at_link link f sides) ≡ f (side_of link sides)
set_there link f sides some = (set_twice (link - 1) (f (side_of link sides)) idle idle sides some).0

-- one link after the other
pub within_one : (n : ℕ) (sides : List SideState) (side : SideState) → n < length sides → side ≡ slice_index_or sides n side → frames_size side.frames.waiting ≤ MOST_POSTED
    → (AreWithin (drop n sides) → AreWithin sides) → AreWithin (drop (n + 1) sides) → AreWithin sides
within_one n sides side some is fits rest more = rest (one n sides some is (let e : n + 1 ≡ suc n = grind arith in rw e at more))
  where
    one : (n : ℕ) (sides : List SideState) → n < length sides → side ≡ slice_index_or sides n side → AreWithin (drop (suc n) sides) → AreWithin (drop n sides)
    one n [] some is more = absurd (grind arith)
    one zero (s ∷ sides) some is more = (rw is at fits, more)
    one (suc n) (s ∷ sides) some is more = one n sides (let f : suc n < suc (length sides) = some in grind arith) is more

pub within_all : (n : ℕ) (sides : List SideState) → length sides ≤ n → AreWithin (drop n sides)
within_all zero [] few = tt
within_all zero (side ∷ sides) few = absurd (grind arith)
within_all (suc n) [] few = tt
within_all (suc n) (side ∷ sides) few = within_all n sides (let f : suc (length sides) ≤ suc n = few in grind arith)
