-- The run of a full trace: of the steps that its lines spell, from a router in which nothing has happened.
use Rattle.std.specs.Prelude.{ℕ, ⊤, List, [], ◌∷◌, length}
use Rattle.ppp_mark.specs.Lines.{lines_of}
use Rattle.ppp_trace.specs.FullSteps.{SpellsStep}
use Rattle.ppp_trace.specs.declared.trace.Trace.{Trace}
use Rattle.ppp_trace.specs.declared.world_step.WorldStep.{WorldStep}
use Rattle.ppp_world_rules.specs.Router.{Router}
use Rattle.ppp_world_rules.specs.Run.{IsNewRouter, Run}
use Rattle.ppp_world_rules.specs.WorldPart.{Output}

-- Each line is one of the steps, in a trace with so many links.
abbrev pub SpellSteps : ℕ → List WorldStep → List (List ℕ) → Type 0
SpellSteps links [] [] = ⊤
SpellSteps links [] (line ∷ lines) = ⊥
SpellSteps links (step ∷ steps) [] = ⊥
SpellSteps links (step ∷ steps) (line ∷ lines) = SpellsStep links step line × SpellSteps links steps lines

-- The steps that these lines spell, run from this router on, and what each prints.
pub record LinesRun (links : ℕ) (lines : List (List ℕ)) (first : Router) : Type 0 where
  pub steps : List WorldStep
  pub spelled : SpellSteps links steps lines
  pub outputs : List Output
  pub last : Router
  pub run : Run steps first outputs last

-- The steps of a trace, run from a router on in which nothing has happened.
pub record TraceRun (trace : Trace) : Type 0 where
  pub first : Router
  pub new : IsNewRouter trace.config trace.secrets trace.seed first
  pub lines : LinesRun (length trace.config.links) (lines_of trace.steps.items) first
