-- No entry of the table has more than three acts.
use Rattle.std.proofs.Common.{ℕ, ◌≤◌, Bool, length, refl}
use Rattle.std.specs.Prelude.{nat_le}
use Rattle.std.proofs.lemmas.Bool.{leb-true}
use Rattle.ppp_fsm.specs.declared.event.FsmEvent.{FsmEvent}
use Rattle.ppp_fsm.specs.Fsm.{Automaton, Entry, acts_in, acts_of}
use Rattle.ppp_fsm.proofs.TableLemmas.{each_entry}

abbrev are_few : FsmEvent → ℕ → Entry → Bool
are_few event state entry = nat_le (length (acts_in entry)) 3

pub few_acts : (a : Automaton) (event : FsmEvent) → length (acts_of a event) ≤ 3
unfolding acts_of
few_acts a event = leb-true _ _ (each_entry are_few refl (λ event state past. refl) a event)
