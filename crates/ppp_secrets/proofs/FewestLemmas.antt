-- The first element of a list with the fewest of something, and elements that are found.
use Rattle.std.proofs.Common.{◌≡◌, ℕ, ◌+◌, ◌<◌, ◌≤◌, ◌⊎◌, zero, suc, Bool, true, false, cond, ◌&&◌, List, [], ◌∷◌, length, get_or, Option, Some, None, refl, sym, ◌∙◌, ap, inl, inr, arith}
use Rattle.std.specs.Prelude.{◌==◌, nat_le, filter, Contains}
use Rattle.std.specs.List.{find, list_all}
use Rattle.std.specs.Option.{option_or}
use Rattle.std.proofs.lemmas.Bool.{false_from_ne_true}
use Rattle.std.proofs.lemmas.Bool.Decides.{nat_tests}

module _ {X : Type 0} where
  -- an element, by recursion
  abbrev pub In : X → List X → Type 0
  In x [] = ⊥
  In x (y ∷ ys) = (y ≡ x) ⊎ In x ys

  pub in_from_contains : (xs : List X) (x : X) → Contains xs x → In x xs
  in_from_contains xs x p = go xs p.0 p.1 p.2
    where
      go : (ys : List X) (k : ℕ) → k < length ys → get_or ys k x ≡ x → In x ys
      go [] k short at = absurd (omega arith)
      go (y ∷ ys) zero short at = inl at
      go (y ∷ ys) (suc k) short at = inr (go ys k (omega arith) at)

  pub contains_from_in : (xs : List X) (x : X) → In x xs → Contains xs x
  contains_from_in [] x h = elim h [ ]
  contains_from_in (y ∷ ys) x (inl e) = (0, omega arith, e)
  contains_from_in (y ∷ ys) x (inr p) = let q : Contains ys x = contains_from_in ys x p in (suc q.0, omega (arith, q.1), q.2)

  pub in_filter : (p : X → Bool) (xs : List X) (x : X) → In x xs → p x ≡ true → In x (filter p xs)
  in_filter p [] x h passes = elim h [ ]
  in_filter p (y ∷ ys) x (inl e) passes = let here : p y ≡ true = ap p e ∙ passes in rw here (inl e)
  in_filter p (y ∷ ys) x (inr q) passes = go (p y) (in_filter p ys x q passes)
    where
      go : (test : Bool) → In x (filter p ys) → In x (cond test (y ∷ filter p ys) (filter p ys))
      go true r = inr r
      go false r = r

  pub in_from_filter : (p : X → Bool) (xs : List X) (x : X) → In x (filter p xs) → In x xs × (p x ≡ true)
  in_from_filter p [] x h = elim h [ ]
  in_from_filter p (y ∷ ys) x h = go (p y) refl (in_from_filter p ys x) h
    where
      go : (test : Bool) → p y ≡ test → (In x (filter p ys) → In x ys × (p x ≡ true)) → In x (cond test (y ∷ filter p ys) (filter p ys)) → In x (y ∷ ys) × (p x ≡ true)
      go true e rest (inl same) = (inl same, sym (ap p same) ∙ e)
      go true e rest (inr q) = let r : In x ys × (p x ≡ true) = rest q in (inr r.0, r.1)
      go false e rest q = let r : In x ys × (p x ≡ true) = rest q in (inr r.0, r.1)

  -- a search through what passes a test
  pub find_filter : (p q : X → Bool) (xs : List X) → find (λ x. p x && q x) xs ≡ find q (filter p xs)
  find_filter p q [] = refl
  find_filter p q (x ∷ xs) = go (p x) (q x) refl (find_filter p q xs)
    where
      go : (a b : Bool) → q x ≡ b → find (λ x. p x && q x) xs ≡ find q (filter p xs) →
          cond (a && b) (Some x) (find (λ x. p x && q x) xs) ≡ find q (cond a (x ∷ filter p xs) (filter p xs))
      go true true e h = rw e refl
      go true false e h = rw e h
      go false b e h = h

  pub find_in : (p : X → Bool) (xs : List X) (x : X) → find p xs ≡ Some x → In x xs × (p x ≡ true)
  find_in p [] x e = absurd cc
  find_in p (y ∷ ys) x e = go (p y) refl (find_in p ys x) e
    where
      go : (test : Bool) → p y ≡ test → (find p ys ≡ Some x → In x ys × (p x ≡ true)) → cond test (Some y) (find p ys) ≡ Some x → In x (y ∷ ys) × (p x ≡ true)
      go true t rest found = let same : y ≡ x = cc in (inl same, sym (ap p same) ∙ t)
      go false t rest found = let r : In x ys × (p x ≡ true) = rest found in (inr r.0, r.1)

  pub find_none : (p : X → Bool) (xs : List X) (x : X) → find p xs ≡ None → In x xs → p x ≡ false
  find_none p [] x e h = elim h [ ]
  find_none p (y ∷ ys) x e h = go (p y) refl (find_none p ys x) e h
    where
      go : (test : Bool) → p y ≡ test → (find p ys ≡ None → In x ys → p x ≡ false) → cond test (Some y) (find p ys) ≡ None → In x (y ∷ ys) → p x ≡ false
      go true t rest none h = absurd cc
      go false t rest none (inl same) = sym (ap p same) ∙ t
      go false t rest none (inr q) = rest none q

  pub find_agrees : (p q : X → Bool) (xs : List X) → ((x : X) → In x xs → p x ≡ q x) → find p xs ≡ find q xs
  find_agrees p q [] h = refl
  find_agrees p q (x ∷ xs) h =
      let here : p x ≡ q x = h x (inl refl) in
      let rest : find p xs ≡ find q xs = find_agrees p q xs (λ y i. h y (inr i)) in
      rw (here, rest) refl

  module _ (f : X → ℕ) where
    -- whether none of the elements has fewer
    abbrev pub is_fewest : List X → X → Bool
    is_fewest xs x = list_all (λ other. nat_le (f x) (f other)) xs

    pub none_has_fewer : (n : ℕ) (xs : List X) → list_all (λ other. nat_le n (f other)) xs ≡ true → (other : X) → In other xs → n ≤ f other
    none_has_fewer n [] h other i = elim i [ ]
    none_has_fewer n (x ∷ xs) h other i = go (nat_le n (f x)) refl (λ all. none_has_fewer n xs all other) h i
      where
        go : (test : Bool) → nat_le n (f x) ≡ test → (list_all (λ other. nat_le n (f other)) xs ≡ true → In other xs → n ≤ f other) →
            (test && list_all (λ other. nat_le n (f other)) xs) ≡ true → In other (x ∷ xs) → n ≤ f other
        go true t rest all (inl same) = let e : f x ≡ f other = ap f same in grind (arith, nat_tests)
        go true t rest all (inr q) = rest all q
        go false t rest all i = absurd cc

    pub all_have : (n : ℕ) (xs : List X) → ((other : X) → In other xs → n ≤ f other) → list_all (λ other. nat_le n (f other)) xs ≡ true
    all_have n [] h = refl
    all_have n (x ∷ xs) h =
        let bound : n ≤ f x = h x (inl refl) in
        let here : nat_le n (f x) ≡ true = grind (arith, nat_tests) in
        let rest : list_all (λ other. nat_le n (f other)) xs ≡ true = all_have n xs (λ y i. h y (inr i)) in
        rw (here, rest) refl

    -- of elements that all have so many, those that have just so many have the fewest
    level : (k : ℕ) (xs : List X) (one : X) → ((x : X) → In x xs → k ≤ f x) → In one xs → f one ≡ k → (x : X) → In x xs → is_fewest xs x ≡ (f x == k)
    level k xs one all i exact x j = go (f x == k) refl
      where
        go : (test : Bool) → (f x == k) ≡ test → is_fewest xs x ≡ test
        go true t = let same : f x ≡ k = grind (arith, nat_tests) in rw same (all_have k xs all)
        go false t = false_from_ne_true (is_fewest xs x) (λ few.
            let low : f x ≤ f one = none_has_fewer (f x) xs few one i in
            let high : k ≤ f x = all x j in
            grind (arith, nat_tests))

    found_at : (k : ℕ) (xs : List X) (one : X) → ((x : X) → In x xs → k ≤ f x) → find (λ x. f x == k) xs ≡ Some one → find (is_fewest xs) xs ≡ Some one
    found_at k xs one all e =
        let found : In one xs × ((f one == k) ≡ true) = find_in (λ x. f x == k) xs one e in
        let exact : f one ≡ k = grind (arith, nat_tests, found.1) in
        find_agrees (is_fewest xs) (λ x. f x == k) xs (level k xs one all found.0 exact) ∙ e

    none_at : (k : ℕ) (xs : List X) → ((x : X) → In x xs → k ≤ f x) → find (λ x. f x == k) xs ≡ None → (x : X) → In x xs → k + 1 ≤ f x
    none_at k xs all e x i =
        let other : (f x == k) ≡ false = find_none (λ x. f x == k) xs x e i in
        let bound : k ≤ f x = all x i in
        grind (arith, nat_tests)

    nothing_left : (xs : List X) → ((x : X) → In x xs → f x ≤ 2) → ((x : X) → In x xs → 3 ≤ f x) → xs ≡ []
    nothing_left [] few many = refl
    nothing_left (x ∷ xs) few many = absurd (omega (arith, few x (inl refl), many x (inl refl)))

    -- three searches, for none, one and two of what no element has more than two of
    pub three_searches : (xs : List X) → ((x : X) → In x xs → f x ≤ 2) →
        option_or (option_or (find (λ x. f x == 0) xs) (find (λ x. f x == 1) xs)) (find (λ x. f x == 2) xs) ≡ find (is_fewest xs) xs
    three_searches xs few = zeroth (find (λ x. f x == 0) xs) refl
      where
        second : (found : Option X) → find (λ x. f x == 2) xs ≡ found → ((x : X) → In x xs → 2 ≤ f x) → found ≡ find (is_fewest xs) xs
        second None e all = let empty : xs ≡ [] = nothing_left xs few (none_at 2 xs all e) in rw empty refl
        second (Some x) e all = sym (found_at 2 xs x all e)

        first : (found : Option X) → find (λ x. f x == 1) xs ≡ found → ((x : X) → In x xs → 1 ≤ f x) → option_or found (find (λ x. f x == 2) xs) ≡ find (is_fewest xs) xs
        first None e all = second (find (λ x. f x == 2) xs) refl (none_at 1 xs all e)
        first (Some x) e all = sym (found_at 1 xs x all e)

        zeroth : (found : Option X) → find (λ x. f x == 0) xs ≡ found → option_or (option_or found (find (λ x. f x == 1) xs)) (find (λ x. f x == 2) xs) ≡ find (is_fewest xs) xs
        zeroth None e = first (find (λ x. f x == 1) xs) refl (none_at 0 xs (λ x i. omega arith) e)
        zeroth (Some x) e = sym (found_at 0 xs x (λ x i. omega arith) e)

    -- Where there is an element, one with the fewest is found.
    pub some_has_fewest : (xs : List X) → ((x : X) → In x xs → f x ≤ 2) → find (is_fewest xs) xs ≡ None → xs ≡ []
    some_has_fewest xs few none = zeroth (find (λ x. f x == 0) xs) refl
      where
        not_found : (x : X) → find (is_fewest xs) xs ≡ Some x → ⊥
        not_found x e = cc

        second : (found : Option X) → find (λ x. f x == 2) xs ≡ found → ((x : X) → In x xs → 2 ≤ f x) → xs ≡ []
        second None e all = nothing_left xs few (none_at 2 xs all e)
        second (Some x) e all = absurd (not_found x (found_at 2 xs x all e))

        first : (found : Option X) → find (λ x. f x == 1) xs ≡ found → ((x : X) → In x xs → 1 ≤ f x) → xs ≡ []
        first None e all = second (find (λ x. f x == 2) xs) refl (none_at 1 xs all e)
        first (Some x) e all = absurd (not_found x (found_at 1 xs x all e))

        zeroth : (found : Option X) → find (λ x. f x == 0) xs ≡ found → xs ≡ []
        zeroth None e = first (find (λ x. f x == 1) xs) refl (none_at 0 xs (λ x i. omega arith) e)
        zeroth (Some x) e = absurd (not_found x (found_at 0 xs x (λ x i. omega arith) e))
