-- What one event does while an expect or a delay goes on.
use Rattle.std.proofs.Common.{ℕ, ◌≡◌, ◌+◌, ◌≤◌, zero, suc, Bool, false, cond, nat_le, Option, None, Some, List, [], ◌∷◌, ◌++◌, length, drop, map, refl, sym, ap, ◌∙◌, arith, add-one, append-nil, slice_get}
use Rattle.std.specs.List.{cons_option}
use Rattle.ppp_chat.specs.ChatOf.{Course}
use Rattle.ppp_chat.specs.Settings.{Settings}
use Rattle.ppp_chat.specs.Course.{Following, course, awaiting}
use Rattle.ppp_chat.specs.ChatState.{awaited, after_found, after_late, expecting, pausing}
use Rattle.ppp_chat.specs.Ending.{Awaited, ending}
use Rattle.ppp_chat.specs.Event.{Event}
use Rattle.ppp_chat.specs.Hearing.{window_after, after_ending}
use Rattle.ppp_chat.specs.Texts.{abort_at, abort_of, kept_settings, IsShort, AreShort}
use Rattle.ppp_chat.specs.declared.directive.Directive.TheVariants.{Abort, ClearAbort, Timeout}
use Rattle.ppp_chat.specs.declared.directives.Directives.{Directives}
use Rattle.ppp_chat.specs.declared.ending.Ending.{Ending}
use Rattle.ppp_chat.specs.declared.ending.Ending.TheVariants.{TimeHasCome, Found, AbortFound}
use Rattle.ppp_chat.specs.declared.stage.Stage.{Stage}
use Rattle.ppp_chat.specs.declared.stage.Stage.TheVariants.{NotBegun, Expecting, Pausing}
use Rattle.ppp_chat.specs.declared.step.Step.{Step}
use Rattle.ppp_chat.specs.declared.step.Step.TheVariants.{Direct, Expect, Met, Send, Pause}
use Rattle.ppp_chat.proofs.Endings.{first_or, awaiting-cons, delaying-cons}
use Rattle.ppp_chat.proofs.Windows.{NoneIsLong, awaiting-latest, ending-latest-now}

drop-suc : (steps : List Step) (place : ℕ) (step : Step) → slice_get steps place ≡ Some step → drop place steps ≡ step ∷ drop (suc place) steps
drop-suc [] place step is = absurd (cc (is))
drop-suc (first ∷ steps) zero step is = let e : first ≡ step = cc (is) in ap (λ (x : Step). x ∷ steps) e
drop-suc (first ∷ steps) (suc place) step is = drop-suc steps place step is

-- from a place on, the step there comes first
pub drop-at : (steps : List Step) (place : ℕ) (step : Step) → slice_get steps place ≡ Some step → drop place steps ≡ step ∷ drop (place + 1) steps
drop-at steps place step is = rw add-one (drop-suc steps place step is)

short-of : (step : Step) → IsShort step → length (abort_of (Some step)) ≤ 513
short-of (Direct (Abort text)) short = short
short-of (Direct (ClearAbort text)) short = omega arith
short-of (Direct (Timeout seconds)) short = omega arith
short-of (Expect text) short = omega arith
short-of Met short = omega arith
short-of (Send octets) short = omega arith
short-of (Pause milliseconds) short = omega arith

short-at : (steps : List Step) (place : ℕ) → AreShort steps → length (abort_at steps place) ≤ 513
short-at [] place short = omega arith
short-at (step ∷ steps) zero short = short-of step short.0
short-at (step ∷ steps) (suc place) short = short-at steps place short.1

-- each abort string of a script is short
pub none-is-long : (steps : List Step) (places : List ℕ) → AreShort steps → NoneIsLong (map (abort_at steps) places)
none-is-long steps [] short = tt
none-is-long steps (place ∷ places) short = (short-at steps place short, none-is-long steps places short)

short-expect : (step : Step) (text : List ℕ) → IsShort step → step ≡ Expect text → length text ≤ 513
short-expect (Direct directive) text short is = absurd (cc (is))
short-expect (Expect other) text short is = let same : other ≡ text = cc (is) in omega (arith, ap length same)
short-expect Met text short is = absurd (cc (is))
short-expect (Send octets) text short is = absurd (cc (is))
short-expect (Pause milliseconds) text short is = absurd (cc (is))

pub short-text : (steps : List Step) (place : ℕ) (text : List ℕ) → AreShort steps → slice_get steps place ≡ Some (Expect text) → length text ≤ 513
short-text [] place text short is = absurd (cc (is))
short-text (step ∷ steps) zero text short is = short-expect step text short.0 (let e : step ≡ Expect text = cc (is) in e)
short-text (step ∷ steps) (suc place) text short is = short-text steps place text short.1 is

window-ending : (x : Awaited) (window : List ℕ) (o : Option ℕ) (event : Event) → length x.text ≤ 513 → NoneIsLong x.aborts
    → ending x (window ++ cons_option o []) event ≡ ending x (window_after window o) event
window-ending x window None event text aborts = ap (λ l. ending x l event) (append-nil window)
window-ending x window (Some octet) event text aborts = ending-latest-now x (window ++ octet ∷ []) event text aborts

window-awaiting : (x : Awaited) (window : List ℕ) (o : Option ℕ) (found late : Following) (later : List Event) → length x.text ≤ 513 → NoneIsLong x.aborts
    → awaiting x (window ++ cons_option o []) found late later ≡ awaiting x (window_after window o) found late later
window-awaiting x window None found late later text aborts = ap (λ l. awaiting x l found late later) (append-nil window)
window-awaiting x window (Some octet) found late later text aborts = awaiting-latest x (window ++ octet ∷ []) found late later text aborts

expecting-step : (text : List ℕ) (left : List Step) (s : Settings) (began : ℕ) (window : List ℕ) (event : Event) (later : List Event)
    → length text ≤ 513 → NoneIsLong s.aborts
    → expecting (Expect text ∷ left) s began window (event ∷ later)
    ≡ first_or (ending (awaited text s began) (window_after window event.octet) event) (after_found left s) (after_late left s) event later
    (expecting (Expect text ∷ left) s began (window_after window event.octet) later)
expecting-step text left s began window event later short aborts =
    let x = awaited text s began in
    awaiting-cons x window (after_found left s) (after_late left s) event later
    ∙ ap (λ o. first_or o (after_found left s) (after_late left s) event later (awaiting x (window ++ cons_option event.octet []) (after_found left s) (after_late left s) later))
    (window-ending x window event.octet event short aborts)
    ∙ ap (λ r. first_or (ending x (window_after window event.octet) event) (after_found left s) (after_late left s) event later r)
    (window-awaiting x window event.octet (after_found left s) (after_late left s) later short aborts)

-- An event while the expect at this place goes on.
pub expect_step : (steps : List Step) (place : ℕ) (text : List ℕ) (d : Directives) (began : ℕ) (window : List ℕ) (event : Event) (later : List Event)
    → AreShort steps → slice_get steps place ≡ Some (Expect text)
    → expecting (drop place steps) (kept_settings steps d) began window (event ∷ later)
    ≡ first_or (ending (awaited text (kept_settings steps d) began) (window_after window event.octet) event)
    (after_found (drop (place + 1) steps) (kept_settings steps d)) (after_late (drop (place + 1) steps) (kept_settings steps d)) event later
    (expecting (drop place steps) (kept_settings steps d) began (window_after window event.octet) later)
expect_step steps place text d began window event later short is =
    rw (drop-at steps place (Expect text) is)
    (expecting-step text (drop (place + 1) steps) (kept_settings steps d) began window event later
    (short-text steps place text short is) (none-is-long steps d.aborts.items short))

-- An event while the delay at this place goes on.
pub pause_step : (steps : List Step) (place milliseconds : ℕ) (s : Settings) (began : ℕ) (event : Event) (later : List Event)
    → slice_get steps place ≡ Some (Pause milliseconds)
    → pausing (drop place steps) s began (event ∷ later)
    ≡ cond (nat_le (began + milliseconds) event.at) (course (drop (place + 1) steps) false s event.at false later) (pausing (drop place steps) s began later)
pause_step steps place milliseconds s began event later is =
    rw (drop-at steps place (Pause milliseconds) is)
    (delaying-cons (began + milliseconds) (λ (now : ℕ) (more : List Event). course (drop (place + 1) steps) false s now false more) event later)

ends-so : (ending : Ending) (left : List Step) (s : Settings) (event : Event) (later : List Event) (other : Course)
    → first_or (Some ending) (after_found left s) (after_late left s) event later other ≡ after_ending ending left s event.at later
ends-so TimeHasCome left s event later other = refl
ends-so Found left s event later other = refl
ends-so (AbortFound number) left s event later other = refl

hears : (steps : List Step) (place : ℕ) (text : List ℕ) (d : Directives) (began : ℕ) (window w : List ℕ) (event : Event) (o : Option Ending)
    → AreShort steps → slice_get steps place ≡ Some (Expect text) → w ≡ window_after window event.octet
    → o ≡ ending (awaited text (kept_settings steps d) began) w event → (later : List Event)
    → expecting (drop place steps) (kept_settings steps d) began window (event ∷ later)
    ≡ first_or o (after_found (drop (place + 1) steps) (kept_settings steps d)) (after_late (drop (place + 1) steps) (kept_settings steps d)) event later
    (expecting (drop place steps) (kept_settings steps d) began w later)
hears steps place text d began window w event o short is after ends later =
    rw (ends, after) (expect_step steps place text d began window event later short is)

-- The same, where the event ends the expect.
pub hears-end : (steps : List Step) (place : ℕ) (text : List ℕ) (d : Directives) (began : ℕ) (window w : List ℕ) (event : Event) (how : Ending)
    → AreShort steps → slice_get steps place ≡ Some (Expect text) → w ≡ window_after window event.octet
    → Some how ≡ ending (awaited text (kept_settings steps d) began) w event → (later : List Event)
    → expecting (drop place steps) (kept_settings steps d) began window (event ∷ later)
    ≡ after_ending how (drop (place + 1) steps) (kept_settings steps d) event.at later
hears-end steps place text d began window w event how short is after ends later =
    hears steps place text d began window w event (Some how) short is after ends later
    ∙ ends-so how (drop (place + 1) steps) (kept_settings steps d) event later (expecting (drop place steps) (kept_settings steps d) began w later)

-- The same, where it doesn't.
pub hears-none : (steps : List Step) (place : ℕ) (text : List ℕ) (d : Directives) (began : ℕ) (window w : List ℕ) (event : Event)
    → AreShort steps → slice_get steps place ≡ Some (Expect text) → w ≡ window_after window event.octet
    → None ≡ ending (awaited text (kept_settings steps d) began) w event → (later : List Event)
    → expecting (drop place steps) (kept_settings steps d) began window (event ∷ later) ≡ expecting (drop place steps) (kept_settings steps d) began w later
hears-none steps place text d began window w event short is after ends later =
    hears steps place text d began window w event None short is after ends later

expecting-is-begun : (began : ℕ) → Expecting began ≡ NotBegun → ⊥
expecting-is-begun began e = cc

pausing-is-begun : (began : ℕ) → Pausing began ≡ NotBegun → ⊥
pausing-is-begun began e = cc

pub begun-expecting : (stage : Stage) (began : ℕ) → stage ≡ Expecting began → stage ≡ NotBegun → ⊥
begun-expecting stage began is none = expecting-is-begun began (sym is ∙ none)

pub begun-pausing : (stage : Stage) (began : ℕ) → stage ≡ Pausing began → stage ≡ NotBegun → ⊥
begun-pausing stage began is none = pausing-is-begun began (sym is ∙ none)

-- The same, where the delay is not over.
pub pause_waits : (steps : List Step) (place milliseconds : ℕ) (s : Settings) (began : ℕ) (event : Event) (later : List Event)
    → slice_get steps place ≡ Some (Pause milliseconds) → nat_le (began + milliseconds) event.at ≡ false
    → pausing (drop place steps) s began (event ∷ later) ≡ pausing (drop place steps) s began later
pause_waits steps place milliseconds s began event later is waits =
    pause_step steps place milliseconds s began event later is
    ∙ ap (λ (b : Bool). cond b (course (drop (place + 1) steps) false s event.at false later) (pausing (drop place steps) s began later)) waits
