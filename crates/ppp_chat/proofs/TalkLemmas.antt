-- A conversation to which nothing comes sends nothing more; so what a call leaves is what was to come, without what it sent.
use Rattle.std.proofs.Common.{◌≡◌, ℕ, false, List, [], ◌∷◌, ◌++◌, length, drop, refl, ap, sym, ◌∙◌, append-nil}
use Rattle.ppp_chat.specs.ChatOf.{Course, ChatOf}
use Rattle.ppp_chat.specs.ChatState.{ChatState, rest, rest_of, outcome_of, sent_by, answer, StandsFor, Answers}
use Rattle.ppp_chat.specs.Course.{sending, course}
use Rattle.ppp_chat.specs.Event.{Event}
use Rattle.ppp_chat.specs.Hearing.{Goes}
use Rattle.ppp_chat.specs.Script.{ChatScript}
use Rattle.ppp_chat.specs.Settings.{Settings, settings_after}
use Rattle.ppp_chat.specs.Steps.{flat}
use Rattle.ppp_chat.specs.Talk.{Talking, told, behind, answer_after}
use Rattle.ppp_chat.specs.declared.now.ChatNow.{ChatNow}
use Rattle.ppp_chat.specs.declared.stage.Stage.{Stage}
use Rattle.ppp_chat.specs.declared.stage.Stage.TheVariants.{NotBegun, Expecting, Pausing, Waiting, Over}
use Rattle.ppp_chat.specs.declared.step.Step.{Step}
use Rattle.ppp_chat.specs.declared.step.Step.TheVariants.{Direct, Expect, Met, Send, Pause}
use Rattle.ppp_chat.proofs.FlatCourse.{chat-course}

-- at once nothing is sent, and the script has ended as its stage says
at_once : (stage : Stage) (left : List Step) (s : Settings) (window : List ℕ) → rest stage left s window [] ≡ record { sent = []; outcome = outcome_of stage }
at_once NotBegun left s window = refl
at_once (Expecting began) [] s window = refl
at_once (Expecting began) (Direct directive ∷ left) s window = refl
at_once (Expecting began) (Expect text ∷ left) s window = refl
at_once (Expecting began) (Met ∷ left) s window = refl
at_once (Expecting began) (Send octets ∷ left) s window = refl
at_once (Expecting began) (Pause milliseconds ∷ left) s window = refl
at_once (Pausing began) [] s window = refl
at_once (Pausing began) (Direct directive ∷ left) s window = refl
at_once (Pausing began) (Expect text ∷ left) s window = refl
at_once (Pausing began) (Met ∷ left) s window = refl
at_once (Pausing began) (Send octets ∷ left) s window = refl
at_once (Pausing began) (Pause milliseconds ∷ left) s window = refl
at_once Waiting left s window = refl
at_once (Over how) left s window = refl

drop-front : (xs ys : List ℕ) → drop (length xs) (xs ++ ys) ≡ ys
drop-front [] ys = refl
drop-front (x ∷ xs) ys = drop-front xs ys

now_sent : (old : Talking) (event : Event) (new : ChatState) (answered : ChatNow) → Goes (λ later. old (event ∷ later)) new answered
    → old (event ∷ []) ≡ record { sent = sent_by answered; outcome = outcome_of new.stage }
now_sent old event new answered g =
    g.goes [] ∙ ap (λ c. sending (sent_by answered) c) (at_once new.stage new.left new.settings new.window)
    ∙ ap (λ (octets : List ℕ). record { sent = octets; outcome = outcome_of new.stage }) (append-nil (sent_by answered))

-- The answer of a call is told by what was to come.
pub answers : (old : Talking) (event : Event) (new : ChatState) (answered : ChatNow) → Goes (λ later. old (event ∷ later)) new answered → answered ≡ told event old
answers old event new answered g =
    g.is ∙ sym (ap (λ (c : Course). answer c.sent c.outcome) (now_sent old event new answered g))

left_at : (old : Talking) (event : Event) (new : ChatState) (answered : ChatNow) → Goes (λ later. old (event ∷ later)) new answered
    → (later : List Event) → rest_of new later ≡ behind event old later
left_at old event new answered g later =
    sym (
    ap (λ (c : Course). record (old (event ∷ later)) { sent = drop (length c.sent) (old (event ∷ later)).sent }) (now_sent old event new answered g)
    ∙ ap (λ (c : Course). record c { sent = drop (length (sent_by answered)) c.sent }) (g.goes later)
    ∙ ap (λ (octets : List ℕ). record { sent = octets; outcome = (rest_of new later).outcome }) (drop-front (sent_by answered) (rest_of new later).sent)
    )

-- What a call leaves is what was to come behind it.
pub leaves : (old : Talking) (event : Event) (new : ChatState) (answered : ChatNow) → Goes (λ later. old (event ∷ later)) new answered → rest_of new ≡ behind event old
leaves old event new answered g = λ i later. left_at old event new answered g later i

-- The call that begins a script takes its octets from what the script says.
pub begins : (script : ChatScript) (s : Settings) (begin : Event) (new : ChatState) (answered : ChatNow)
    → new.script ≡ script → s ≡ settings_after script.timeout_s []
    → Goes (λ later. course (flat script.items) false s begin.at false later) new answered
    → Goes (λ later. ChatOf new.script (begin ∷ later)) new answered
begins script s begin new answered same is g = record {
  goes = λ later.
      ap (λ (one : ChatScript). ChatOf one (begin ∷ later)) same
      ∙ chat-course script begin later
      ∙ ap (λ (now : Settings). course (flat script.items) false now begin.at false later) (sym is)
      ∙ g.goes later;
  is = g.is;
  is_begun = g.is_begun;
}

-- A conversation that was begun stands for that call.
pub stands_begun : (begin : Event) (new : ChatState) (answered : ChatNow) → Goes (λ later. ChatOf new.script (begin ∷ later)) new answered → StandsFor new (begin ∷ [])
stands_begun begin new answered g =
    let sent : (ChatOf new.script (begin ∷ [])).sent ≡ sent_by answered = ap (λ (c : Course). c.sent) (now_sent (ChatOf new.script) begin new answered g) in
    record { goes_on = λ later. g.goes later ∙ ap (λ (octets : List ℕ). sending octets (rest_of new later)) (sym sent) }

-- The answer of the call that begins a script is what the script says.
pub answers_begun : (script : ChatScript) (begin : Event) (new : ChatState) (answered : ChatNow)
    → Goes (λ later. ChatOf script (begin ∷ later)) new answered → Answers script [] begin answered
answers_begun script begin new answered g = record {
  sent = ap (λ (c : Course). c.sent) (now_sent (ChatOf script) begin new answered g);
  is = g.is ∙ sym (ap (λ (c : Course). answer (sent_by answered) c.outcome) (now_sent (ChatOf script) begin new answered g));
}

-- The answer of a call is the one that is listed.
pub listed : (script : ChatScript) (calls : List Event) (call : Event) (answered : ChatNow) → Answers script calls call answered
    → answered ≡ answer_after (ChatOf script) calls call
listed script calls call answered a =
    let new : drop (length (ChatOf script calls).sent) (ChatOf script (calls ++ call ∷ [])).sent ≡ sent_by answered =
    ap (λ (octets : List ℕ). drop (length (ChatOf script calls).sent) octets) a.sent ∙ drop-front (ChatOf script calls).sent (sent_by answered) in
    a.is ∙ sym (ap (λ (octets : List ℕ). answer octets (ChatOf script (calls ++ call ∷ [])).outcome) new)
