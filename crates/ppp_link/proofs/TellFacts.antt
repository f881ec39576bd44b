-- Whether an event is taken.
use Rattle.std.proofs.Common.{refl, sym, ◌∙◌, ◌≡◌, Bool, true, false}
use Rattle.std.specs.Prelude.{◌↔◌, ⊤}
use Rattle.std.proofs.lemmas.Bool.{true≢false}
use Rattle.ppp_link_core.specs.declared.link_core.LinkCore.{LinkCore}
use Rattle.ppp_link_core.specs.Standing.{StandsFor}
use Rattle.ppp_link_events.specs.Going.{IsGoing}
use Rattle.ppp_link_rules.specs.LinkEvent.{Event}
use Rattle.ppp_link_rules.specs.LinkPart.{is_present}
use Rattle.ppp_link_rules.specs.LinkState.{LinkState}

-- A test tells whether an event is present, of each state that a machine stands for.
abbrev pub TellsOf : {S : Type 0} → Bool → Event → LinkCore S → Type 0
TellsOf b event c = (s : LinkState) → StandsFor c s → is_present event s ≡ b

pub taken_by : {S : Type 0} {c : LinkCore S} {b : Bool} (event : Event) → TellsOf b event c → b ≡ true → (s : LinkState) → IsGoing c s → ⊤ ↔ (is_present event s ≡ true)
taken_by event tells e s k = (λ _. tells s k.stands ∙ e, λ _. tt)

pub stale_by : {S : Type 0} {c : LinkCore S} {b : Bool} (event : Event) → TellsOf b event c → b ≡ false → (s : LinkState) → IsGoing c s → ⊥ ↔ (is_present event s ≡ true)
stale_by event tells e s k = (λ x. absurd x, λ x. absurd (true≢false (sym x ∙ (tells s k.stands ∙ e))))
