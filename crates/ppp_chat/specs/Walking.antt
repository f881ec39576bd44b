-- How a call goes from step to step: the code's own form of what follows at once.
use Rattle.std.specs.Prelude.{ℕ, ◌≡◌, Bool, true, false, Option, None, Some, List, [], ◌∷◌}
use Rattle.ppp_chat.specs.ChatOf.{Course}
use Rattle.ppp_chat.specs.Course.{sending, course}
use Rattle.ppp_chat.specs.ChatState.{rest}
use Rattle.ppp_chat.specs.Event.{Event}
use Rattle.ppp_chat.specs.Settings.{Settings}
use Rattle.ppp_chat.specs.Texts.{kept_settings}
use Rattle.ppp_chat.specs.declared.directives.Directives.{Directives}
use Rattle.ppp_chat.specs.declared.now.ChatEnd.TheVariants.{Done}
use Rattle.ppp_chat.specs.declared.stage.Stage.{Stage}
use Rattle.ppp_chat.specs.declared.stage.Stage.TheVariants.{Waiting, Over}
use Rattle.ppp_chat.specs.declared.step.Step.{Step}
use Rattle.ppp_chat.specs.declared.walk.Turn.{Turn}

abbrev pub has_octets : List ℕ → Bool
has_octets [] = false
has_octets (octet ∷ octets) = true

-- what a call sends and what follows, where it has come to these steps
abbrev pub so_far : Turn → List Step → Settings → ℕ → List Event → Course
so_far turn left s now later = sending turn.sent (course left turn.met s now (has_octets turn.sent) later)

-- A step is done: what follows is told by the steps behind it; or the call stops before it.
abbrev pub Takes : List Step → Step → ℕ → Directives → Directives → Turn → Turn → Option Stage → Type 0
Takes steps step now old new before after None =
    (left : List Step) (later : List Event) → so_far before (step ∷ left) (kept_settings steps old) now later ≡ so_far after left (kept_settings steps new) now later
Takes steps step now old new before after (Some stage) =
    (left : List Step) (later : List Event) → so_far before (step ∷ left) (kept_settings steps old) now later
    ≡ sending after.sent (rest stage (step ∷ left) (kept_settings steps new) [] later)

-- where no step is left
abbrev pub stage_at_end : List ℕ → Stage
stage_at_end [] = Over Done
stage_at_end (octet ∷ octets) = Waiting
