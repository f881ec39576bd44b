-- When the layer opens and closes (RFC 1661, section 4.4, This-Layer-Up and This-Layer-Down).
use Rattle.std.specs.Prelude.{◌≡◌, ◌==◌, Bool, true, false, List, [], ◌∷◌}
use Rattle.ppp_fsm.specs.declared.event.FsmEvent.{FsmEvent}
use Rattle.ppp_fsm.specs.declared.acts.Act.{Act}
use Rattle.ppp_fsm.specs.declared.acts.Act.TheVariants.{Tlu, Tld}
use Rattle.ppp_fsm.specs.Fsm.{Automaton, acts_of, after}

-- those of some acts that open or close the layer
abbrev pub layer_acts : List Act → List Act
layer_acts [] = []
layer_acts (Tlu ∷ acts) = Tlu ∷ layer_acts acts
layer_acts (Tld ∷ acts) = Tld ∷ layer_acts acts
layer_acts (_ ∷ acts) = layer_acts acts

-- the acts that tell of Opened, by whether the automaton was there before and is there now
abbrev pub layer_change : Bool → Bool → List Act
layer_change false false = []
layer_change false true = Tlu ∷ []
layer_change true false = Tld ∷ []
layer_change true true = []

-- Tlu comes exactly as Opened is entered, Tld exactly as it is left, each once, and at no other event.
abbrev pub OpensByActs : Automaton → FsmEvent → Type 0
OpensByActs a event = layer_acts (acts_of a event) ≡ layer_change (a.state == 9) ((after a event).state == 9)
