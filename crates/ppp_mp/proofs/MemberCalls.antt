-- Who is a member, before and after the single steps.
use Rattle.std.proofs.Common.{◌↔◌, ◌≡◌, ℕ, ◌-◌, zero, suc, Bool, true, false, List, [], ◌∷◌, Option, None, Some, is_some, map, option_map, slice_set, slice_index_or, refl, sym, ap, ◌∙◌}
use Rattle.ppp_mp.specs.StandsFor.{GatherNow, IsJoined, members_of}

pub map_set : (xs : List (Option ℕ)) (i : ℕ) (y : Option ℕ) → map is_some (slice_set xs i y) ≡ slice_set (map is_some xs) i (is_some y)
map_set [] i y = refl
map_set (x ∷ xs) zero y = refl
map_set (x ∷ xs) (suc i) y = ap (λ (l : List Bool). is_some x ∷ l) (map_set xs i y)

pub same_there : (xs : List (Option ℕ)) (i : ℕ) (b : Bool) → is_some (slice_index_or xs i None) ≡ b → slice_set (map is_some xs) i b ≡ map is_some xs
same_there [] i b e = refl
same_there (x ∷ xs) zero b e = ap (λ (c : Bool). c ∷ map is_some xs) (sym e)
same_there (x ∷ xs) (suc i) b e = ap (λ (l : List Bool). is_some x ∷ l) (same_there xs i b e)

-- A member that brings a piece is a member.
pub brought_same : (xs : List (Option ℕ)) (i n : ℕ) → is_some (slice_index_or xs i None) ≡ true → map is_some (slice_set xs i (Some n)) ≡ map is_some xs
brought_same xs i n e = map_set xs i (Some n) ∙ same_there xs i true e

some_less : (count : ℕ) (x : Option ℕ) → is_some (option_map (λ n. n - count) x) ≡ is_some x
some_less count None = refl
some_less count (Some n) = refl

-- Numbers that are settled make no member.
pub moved_same : (xs : List (Option ℕ)) (count : ℕ) → map is_some (map (option_map (λ n. n - count)) xs) ≡ map is_some xs
moved_same [] count = refl
moved_same (x ∷ xs) count = ap (λ (b : Bool). b ∷ map is_some (map (option_map (λ n. n - count)) xs)) (some_less count x) ∙ ap (λ (l : List Bool). is_some x ∷ l) (moved_same xs count)

at_map : (xs : List (Option ℕ)) (i : ℕ) → slice_index_or (map is_some xs) i false ≡ is_some (slice_index_or xs i None)
at_map [] i = refl
at_map (x ∷ xs) zero = refl
at_map (x ∷ xs) (suc i) = at_map xs i

pub there_same : (xs ys : List (Option ℕ)) (i : ℕ) → map is_some xs ≡ map is_some ys → is_some (slice_index_or xs i None) ≡ is_some (slice_index_or ys i None)
there_same xs ys i e = sym (at_map xs i) ∙ ap (λ (l : List Bool). slice_index_or l i false) e ∙ at_map ys i

-- A link has joined where it stands among the members.
pub joined_told : (g : GatherNow) (link : ℕ) → IsJoined g link ↔ (slice_index_or (members_of g) (link - 1) false ≡ true)
joined_told g link = (λ joined. at_map g.overs (link - 1) ∙ joined, λ told. sym (at_map g.overs (link - 1)) ∙ told)
