-- A bare trace as it is spelled.
use Rattle.std.specs.Prelude.{◌≡◌, ℕ, ◌≤◌, ◌⊎◌, ⊤, List, [], ◌∷◌, ◌++◌, length, codes}
use Rattle.std.specs.List.{flat_map}
use Rattle.ppp_trace.specs.declared.step.BareStep.{BareStep}
use Rattle.ppp_trace.specs.declared.TheConstants.{MOST_STEPS}
use Rattle.ppp_trace.specs.Steps.{IsStep, word_of_step}

-- the header, and behind a newline the word of each step
abbrev pub spelled : List BareStep → List ℕ
spelled steps = codes "bare" ++ flat_map (λ s. 10 ∷ word_of_step s) steps

-- Each has numbers within their bounds.
abbrev pub AreSteps : List BareStep → Type 0
AreSteps [] = ⊤
AreSteps (step ∷ steps) = IsStep step × AreSteps steps

-- The octets are these steps, and at the end a newline or none.
pub record IsBareTrace (octets : List ℕ) (steps : List BareStep) : Type 0 where
  pub few : length steps ≤ MOST_STEPS
  pub bounded : AreSteps steps
  pub text : (octets ≡ spelled steps) ⊎ (octets ≡ spelled steps ++ 10 ∷ [])

-- The octets are no bare trace, whatever the steps.
abbrev pub IsNoTrace : List ℕ → Type 0
IsNoTrace octets = (steps : List BareStep) → IsBareTrace octets steps → ⊥
