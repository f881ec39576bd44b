-- What each entry of the table says of where it leads.
use Rattle.std.proofs.Common.{◌≡◌, ℕ, ◌<◌, ◌≤◌, Bool, true, false, refl, ap, sym, ◌∙◌, arith}
use Rattle.std.specs.Prelude.{◌||◌, not, nat_le, nat_lt}
use Rattle.std.proofs.lemmas.Bool.Decides.{nat_tests}
use Rattle.ppp_fsm.specs.declared.event.FsmEvent.{FsmEvent}
use Rattle.ppp_fsm.specs.declared.event.FsmEvent.TheVariants.{Close}
use Rattle.ppp_fsm.specs.Fsm.{Automaton, Entry, entry_of, after}
use Rattle.ppp_fsm.specs.Moving.{is_shut, is_open_event, may_begin}
use Rattle.ppp_fsm.proofs.TableLemmas.{each_entry, next_of, next_is}

implies : (a b : Bool) → (not a || b) ≡ true → a ≡ true → b ≡ true
implies true b e f = e
implies false b e f = absurd (let x : false ≡ true = f in cc)

itself : (b : Bool) → (not b || b) ≡ true
itself true = refl
itself false = refl

or_itself : (a b : Bool) → (not b || (a || b)) ≡ true
or_itself true true = refl
or_itself true false = refl
or_itself false true = refl
or_itself false false = refl

abbrev few : FsmEvent → ℕ → Entry → Bool
few event state entry = not (nat_le state 9) || nat_le (next_of state entry) 9

pub within_ten : (a : Automaton) (event : FsmEvent) → a.state ≤ 9 → (after a event).state ≤ 9
within_ten a event h =
    let passes = each_entry few refl (λ event state past. itself (nat_le state 9)) a event in
    let le : nat_le a.state 9 ≡ true = grind (arith, nat_tests) in
    let after_le : nat_le (after a event).state 9 ≡ true = ap (λ s. nat_le s 9) (next_is a event) ∙ implies (nat_le a.state 9) _ passes le in
    grind (arith, nat_tests)

either_way : (b : Bool) → (not b || true) ≡ true
either_way true = refl
either_way false = refl

abbrev is_close : FsmEvent → Bool
is_close Close = true
is_close _ = false

abbrev shuts : FsmEvent → ℕ → Entry → Bool
shuts event state entry = not (is_close event) || (nat_lt 9 state || is_shut (next_of state entry))

pub shut_by_close : (a : Automaton) → a.state ≤ 9 → is_shut (after a Close).state ≡ true
shut_by_close a h =
    let passes = each_entry shuts refl (λ event state past. past_nine (is_close event) state past) a Close in
    let within : nat_lt 9 a.state ≡ false = grind (arith, nat_tests) in
    ap is_shut (next_is a Close) ∙ second _ _ within passes
  where
    second : (a b : Bool) → a ≡ false → (a || b) ≡ true → b ≡ true
    second false b e f = f
    second true b e f = absurd (let x : true ≡ false = e in cc)

    past_nine : (b : Bool) (state : ℕ) → 9 < state → (not b || (nat_lt 9 state || is_shut state)) ≡ true
    past_nine b state past = let over : nat_lt 9 state ≡ true = grind (arith, nat_tests) in ap (λ x. not b || (x || is_shut state)) over ∙ either_way b

abbrev stays_shut : FsmEvent → ℕ → Entry → Bool
stays_shut event state entry = not (is_shut state) || (is_open_event event || is_shut (next_of state entry))

pub stays_until_open : (a : Automaton) (event : FsmEvent) → is_shut a.state ≡ true → (is_open_event event || is_shut (after a event).state) ≡ true
stays_until_open a event h =
    let passes = each_entry stays_shut refl (λ event state past. or_itself (is_open_event event) (is_shut state)) a event in
    ap (λ s. is_open_event event || is_shut s) (next_is a event) ∙ implies (is_shut a.state) _ passes h

abbrev alike : Bool → Bool → Bool
alike true b = b
alike false b = not b

are_same : (a b : Bool) → alike a b ≡ true → a ≡ b
are_same true true e = refl
are_same true false e = sym e
are_same false true e = e
are_same false false e = refl

abbrev rises : FsmEvent → ℕ → Entry → Bool
rises event state entry = nat_lt 3 state || alike (nat_lt 3 (next_of state entry)) (may_begin event state)

pub begun_by_these : (a : Automaton) (event : FsmEvent) → a.state ≤ 3 → nat_lt 3 (after a event).state ≡ may_begin event a.state
begun_by_these a event h =
    let passes = each_entry rises refl (λ event state past. far (alike (nat_lt 3 state) (may_begin event state)) state past) a event in
    let within : nat_lt 3 a.state ≡ false = grind (arith, nat_tests) in
    ap (λ s. nat_lt 3 s) (next_is a event) ∙ are_same (nat_lt 3 (next_of a.state (entry_of a event))) (may_begin event a.state) (second (nat_lt 3 a.state) _ within passes)
  where
    second : (a b : Bool) → a ≡ false → (a || b) ≡ true → b ≡ true
    second false b e f = f
    second true b e f = absurd (let x : true ≡ false = e in cc)

    far : (b : Bool) (state : ℕ) → 9 < state → (nat_lt 3 state || b) ≡ true
    far b state past = let over : nat_lt 3 state ≡ true = grind (arith, nat_tests) in ap (λ x. x || b) over
