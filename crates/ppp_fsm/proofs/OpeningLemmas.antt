-- What each entry of the table says of Opened, and which zeroes the counter.
use Rattle.std.proofs.Common.{◌≡◌, ℕ, ◌<◌, Bool, true, false, List, [], ◌∷◌, refl, ap, sym, arith}
use Rattle.std.specs.Prelude.{◌==◌, ◌&&◌}
use Rattle.std.proofs.lemmas.Bool.Decides.{nat_tests}
use Rattle.ppp_fsm.specs.declared.event.FsmEvent.{FsmEvent}
use Rattle.ppp_fsm.specs.declared.acts.Act.{Act}
use Rattle.ppp_fsm.specs.declared.acts.Act.TheVariants.{Tlu, Tld, Tls, Tlf, Irc, Zrc, Scr, Sca, Scn, Str, Sta, Scj, Ser}
use Rattle.ppp_fsm.specs.Acts.{place_of, has}
use Rattle.ppp_fsm.specs.Fsm.{Automaton, Entry, acts_in, acts_of, entry_of}
use Rattle.ppp_fsm.specs.Opening.{layer_acts, layer_change, OpensByActs}
use Rattle.ppp_fsm.specs.TableTest.{is_terminate}
use Rattle.ppp_fsm.proofs.TableLemmas.{each_entry, next_of, next_is}

-- whether acts are the layer acts of this change
abbrev is_one : Act → List Act → Bool
is_one act [] = false
is_one act (first ∷ []) = place_of act == place_of first
is_one act (first ∷ second ∷ others) = false

abbrev is_none : List Act → Bool
is_none [] = true
is_none (first ∷ others) = false

abbrev are_of_change : List Act → Bool → Bool → Bool
are_of_change acts false false = is_none acts
are_of_change acts true true = is_none acts
are_of_change acts false true = is_one Tlu acts
are_of_change acts true false = is_one Tld acts

none_is : (acts : List Act) → is_none acts ≡ true → acts ≡ []
none_is [] e = refl
none_is (first ∷ others) e = absurd (cc)

one_is : (act : Act) (acts : List Act) → ((other : Act) → (place_of act == place_of other) ≡ true → other ≡ act) → is_one act acts ≡ true → acts ≡ act ∷ []
one_is act [] only e = absurd (cc)
one_is act (first ∷ []) only e = ap (λ x. x ∷ []) (only first e)
one_is act (first ∷ second ∷ others) only e = absurd (cc)

only_tlu : (other : Act) → (place_of Tlu == place_of other) ≡ true → other ≡ Tlu
only_tlu Tlu e = refl
only_tlu Tld e = absurd (cc)
only_tlu Tls e = absurd (cc)
only_tlu Tlf e = absurd (cc)
only_tlu Irc e = absurd (cc)
only_tlu Zrc e = absurd (cc)
only_tlu Scr e = absurd (cc)
only_tlu Sca e = absurd (cc)
only_tlu Scn e = absurd (cc)
only_tlu Str e = absurd (cc)
only_tlu Sta e = absurd (cc)
only_tlu Scj e = absurd (cc)
only_tlu Ser e = absurd (cc)

only_tld : (other : Act) → (place_of Tld == place_of other) ≡ true → other ≡ Tld
only_tld Tld e = refl
only_tld Tlu e = absurd (cc)
only_tld Tls e = absurd (cc)
only_tld Tlf e = absurd (cc)
only_tld Irc e = absurd (cc)
only_tld Zrc e = absurd (cc)
only_tld Scr e = absurd (cc)
only_tld Sca e = absurd (cc)
only_tld Scn e = absurd (cc)
only_tld Str e = absurd (cc)
only_tld Sta e = absurd (cc)
only_tld Scj e = absurd (cc)
only_tld Ser e = absurd (cc)

of_change : (acts : List Act) (was is : Bool) → are_of_change acts was is ≡ true → acts ≡ layer_change was is
of_change acts false false e = none_is acts e
of_change acts true true e = none_is acts e
of_change acts false true e = one_is Tlu acts only_tlu e
of_change acts true false e = one_is Tld acts only_tld e

abbrev opens : FsmEvent → ℕ → Entry → Bool
opens event state entry = are_of_change (layer_acts (acts_in entry)) (state == 9) (next_of state entry == 9)

pub opens_by_acts : (a : Automaton) (event : FsmEvent) → OpensByActs a event
unfolding acts_of
opens_by_acts a event =
    let passes = each_entry opens refl (λ event state past. no_change (state == 9)) a event in
    rw (next_is a event) (of_change (layer_acts (acts_of a event)) (a.state == 9) (next_of a.state (entry_of a event) == 9) passes)
  where
    no_change : (b : Bool) → are_of_change [] b b ≡ true
    no_change true = refl
    no_change false = refl

abbrev same : Bool → Bool → Bool
same true b = b
same false true = false
same false false = true

abbrev zeroes : FsmEvent → ℕ → Entry → Bool
zeroes event state entry = same (has Zrc (acts_in entry)) (is_terminate event && state == 9)

alike : (a b : Bool) → same a b ≡ true → a ≡ b
alike true true e = refl
alike true false e = sym e
alike false true e = e
alike false false e = refl

pub zeroed_in_opened : (a : Automaton) (event : FsmEvent) → has Zrc (acts_of a event) ≡ (is_terminate event && a.state == 9)
unfolding acts_of
zeroed_in_opened a event = alike _ _ (each_entry zeroes refl (λ event state past. none_past event state past) a event)
  where
    not_nine : (state : ℕ) → 9 < state → (state == 9) ≡ false
    not_nine state past = grind (arith, nat_tests)

    no_terminate : (b : Bool) → same false (b && false) ≡ true
    no_terminate true = refl
    no_terminate false = refl

    none_past : (event : FsmEvent) (state : ℕ) → 9 < state → same false (is_terminate event && state == 9) ≡ true
    none_past event state past = rw (not_nine state past) (no_terminate (is_terminate event))
