-- What one call does to a conversation that was begun: the code's own form of what follows an ending.
use Rattle.std.specs.Prelude.{ℕ, ◌≡◌, Option, None, Some, List, [], ◌∷◌, ◌++◌}
use Rattle.ppp_chat.specs.ChatOf.{Course}
use Rattle.ppp_chat.specs.Course.{ended, sending}
use Rattle.ppp_chat.specs.ChatState.{ChatState, IsBegun, after_found, after_late, rest_of, outcome_of, sent_by, answer}
use Rattle.ppp_chat.specs.Event.{Event}
use Rattle.ppp_chat.specs.Settings.{Settings}
use Rattle.ppp_chat.specs.Texts.{latest}
use Rattle.ppp_chat.specs.declared.ending.Ending.{Ending}
use Rattle.ppp_chat.specs.declared.ending.Ending.TheVariants.{TimeHasCome, Found, AbortFound}
use Rattle.ppp_chat.specs.declared.now.ChatEnd.TheVariants.{Aborted}
use Rattle.ppp_chat.specs.declared.now.ChatNow.{ChatNow}
use Rattle.ppp_chat.specs.declared.step.Step.{Step}

-- the window after a call
abbrev pub window_after : List ℕ → Option ℕ → List ℕ
window_after window None = window
window_after window (Some octet) = latest (window ++ octet ∷ [])

-- what follows an ending of an expect, where these are the steps behind it
abbrev pub after_ending : Ending → List Step → Settings → ℕ → List Event → Course
after_ending TimeHasCome left s now later = after_late left s now later
after_ending Found left s now later = after_found left s now later
after_ending (AbortFound number) left s now later = ended (Aborted number)

-- From what was to come a call takes the octets of its answer, and the rest is to come.
pub record Goes (before : List Event → Course) (new : ChatState) (answered : ChatNow) : Type 0 where
  pub goes : (later : List Event) → before later ≡ sending (sent_by answered) (rest_of new later)
  pub is : answered ≡ answer (sent_by answered) (outcome_of new.stage)
  pub is_begun : IsBegun new

-- what is to come with an event and then others
abbrev pub rest_with : ChatState → Event → List Event → Course
rest_with chat event later = rest_of chat (event ∷ later)
