-- How a conversation stands for the calls that it heard since it was begun.
use Rattle.std.specs.Prelude.{ℕ, ◌+◌, ◌≡◌, true, false, if◌then◌else◌, Option, None, Some, List, [], ◌∷◌, ◌++◌}
use Rattle.ppp_chat.specs.ChatOf.{Course, ChatOf}
use Rattle.ppp_chat.specs.Course.{going, ended, sending, at_next, awaiting, delaying, is_last_part, course}
use Rattle.ppp_chat.specs.Ending.{Awaited}
use Rattle.ppp_chat.specs.Event.{Event}
use Rattle.ppp_chat.specs.Script.{ChatScript}
use Rattle.ppp_chat.specs.Settings.{Settings}
use Rattle.ppp_chat.specs.declared.now.ChatEnd.{ChatEnd}
use Rattle.ppp_chat.specs.declared.now.ChatEnd.TheVariants.{Done as IsDone, TimedOut as IsTimedOut, Aborted as IsAborted}
use Rattle.ppp_chat.specs.declared.now.ChatNow.{ChatNow}
use Rattle.ppp_chat.specs.declared.now.ChatNow.TheVariants.{Going, Sent, Done, TimedOut, Aborted}
use Rattle.ppp_chat.specs.declared.stage.Stage.{Stage}
use Rattle.ppp_chat.specs.declared.stage.Stage.TheVariants.{NotBegun, Expecting, Pausing, Waiting, Over}
use Rattle.ppp_chat.specs.declared.step.Step.{Step}
use Rattle.ppp_chat.specs.declared.step.Step.TheVariants.{Expect, Pause}

-- an expect that began at this moment
abbrev pub awaited : List ℕ → Settings → ℕ → Awaited
awaited text s began = record { text = text; until = began + s.timeout; aborts = s.aborts }

-- what a conversation keeps: its script, what it waits for, the steps from the one at hand on, what the directives have set,
-- and the last octets since the expect began
pub record ChatState : Type 0 where
  pub script : ChatScript
  pub stage : Stage
  pub left : List Step
  pub settings : Settings
  pub window : List ℕ

abbrev pub HasBegun : Stage → Type 0
HasBegun stage = stage ≡ NotBegun → ⊥

abbrev pub IsBegun : ChatState → Type 0
IsBegun chat = HasBegun chat.stage

-- what follows an expect that is met, and one that is late
abbrev pub after_found : List Step → Settings → ℕ → List Event → Course
after_found steps s now later = course steps true s now false later

abbrev pub after_late : List Step → Settings → ℕ → List Event → Course
after_late steps s now later = if is_last_part steps then ended IsTimedOut else course steps false s now false later

-- while an expect, which began at this moment, goes on
abbrev pub expecting : List Step → Settings → ℕ → List ℕ → List Event → Course
expecting (Expect text ∷ steps) s began window later =
    awaiting (awaited text s began) window (after_found steps s) (after_late steps s) later
expecting other s began window later = going

-- while a delay, which began at this moment, goes on
abbrev pub pausing : List Step → Settings → ℕ → List Event → Course
pausing (Pause milliseconds ∷ steps) s began later =
    delaying (began + milliseconds) (λ (now : ℕ) (more : List Event). course steps false s now false more) later
pausing other s began later = going

-- what is still to be sent, and how it ends, with the events to come
abbrev pub rest : Stage → List Step → Settings → List ℕ → List Event → Course
rest NotBegun left s window later = going
rest (Expecting began) left s window later = expecting left s began window later
rest (Pausing began) left s window later = pausing left s began later
rest Waiting left s window later = at_next (λ (now : ℕ) (more : List Event). course left false s now false more) later
rest (Over how) left s window later = ended how

abbrev pub rest_of : ChatState → List Event → Course
rest_of chat later = rest chat.stage chat.left chat.settings chat.window later

-- how the script has ended, if it has
abbrev pub outcome_of : Stage → Option ChatEnd
outcome_of NotBegun = None
outcome_of (Expecting began) = None
outcome_of (Pausing began) = None
outcome_of Waiting = None
outcome_of (Over how) = Some how

-- The conversation stands for these calls: whatever comes, its script sends what it has sent by now and then the conversation's rest.
pub record StandsFor (chat : ChatState) (calls : List Event) : Type 0 where
  pub goes_on : (later : List Event) → ChatOf chat.script (calls ++ later) ≡ sending (ChatOf chat.script calls).sent (rest_of chat later)

-- the octets of an answer
abbrev pub sent_by : ChatNow → List ℕ
sent_by Going = []
sent_by (Sent octets) = octets
sent_by Done = []
sent_by TimedOut = []
sent_by (Aborted number) = []

-- a call's answer where it sends nothing
abbrev pub answer_for : Option ChatEnd → ChatNow
answer_for None = Going
answer_for (Some IsDone) = Done
answer_for (Some IsTimedOut) = TimedOut
answer_for (Some (IsAborted number)) = Aborted number

-- a call's answer: what it sends, else how the script stands
abbrev pub answer : List ℕ → Option ChatEnd → ChatNow
answer [] outcome = answer_for outcome
answer (octet ∷ octets) outcome = Sent (octet ∷ octets)

-- The answer to a call after these calls is what the script says: the octets that it sends at this call, else how it stands then.
pub record Answers (script : ChatScript) (calls : List Event) (call : Event) (answered : ChatNow) : Type 0 where
  pub sent : (ChatOf script (calls ++ call ∷ [])).sent ≡ (ChatOf script calls).sent ++ sent_by answered
  pub is : answered ≡ answer (sent_by answered) (ChatOf script (calls ++ call ∷ [])).outcome
