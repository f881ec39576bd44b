-- The abort strings that the steps before a place set, and the room for one more.
use Rattle.std.proofs.Common.{ℕ, ◌≡◌, ◌+◌, ◌<◌, zero, suc, slice_get, Some, List, [], ◌∷◌, ◌++◌, length, map, take, refl, sym, ap, ◌∙◌, arith, add-one, append-nil, length-append}
use Rattle.ppp_chat.specs.Course.{obeyed}
use Rattle.ppp_chat.specs.Room.{AreFew, AreSetAt, HasRoom, settings_with}
use Rattle.ppp_chat.specs.Settings.{Settings, aborts_of}
use Rattle.ppp_chat.specs.Steps.{directives_in}
use Rattle.ppp_chat.specs.Texts.{abort_at, kept_settings}
use Rattle.ppp_chat.specs.declared.directive.Directive.{Directive}
use Rattle.ppp_chat.specs.declared.directive.Directive.TheVariants.{Abort, ClearAbort, Timeout}
use Rattle.ppp_chat.specs.declared.directives.Directives.{Directives}
use Rattle.ppp_chat.specs.declared.step.Step.{Step}
use Rattle.ppp_chat.specs.declared.step.Step.TheVariants.{Direct, Expect, Met, Send, Pause}
use Rattle.ppp_chat.proofs.FlatItems.{directives-append}
use Rattle.ppp_chat.proofs.SettingsSteps.{settings-more}

take-suc : (steps : List Step) (place : ℕ) (step : Step) → slice_get steps place ≡ Some step → take (suc place) steps ≡ take place steps ++ step ∷ []
take-suc [] place step is = absurd (cc (is))
take-suc (first ∷ steps) zero step is = let e : first ≡ step = cc (is) in ap (λ (x : Step). x ∷ []) e
take-suc (first ∷ steps) (suc place) step is = ap (λ (l : List Step). first ∷ l) (take-suc steps place step is)

-- the directives up to a step and with it
up-to : (steps : List Step) (place : ℕ) (step : Step) → slice_get steps place ≡ Some step
    → directives_in (take (place + 1) steps) ≡ directives_in (take place steps) ++ directives_in (step ∷ [])
up-to steps place step is =
    rw add-one (ap (λ (l : List Step). directives_in l) (take-suc steps place step is)
    ∙ directives-append (take place steps) (step ∷ []))

aborts-more : (directives : List Directive) (directive : Directive) (timeout : ℕ)
    → aborts_of (directives ++ directive ∷ []) ≡ (obeyed directive (record { aborts = aborts_of directives; timeout = timeout })).aborts
aborts-more directives (Abort text) timeout = ap (λ (s : Settings). s.aborts) (settings-more 0 directives (Abort text))
aborts-more directives (ClearAbort text) timeout = ap (λ (s : Settings). s.aborts) (settings-more 0 directives (ClearAbort text))
aborts-more directives (Timeout seconds) timeout = ap (λ (s : Settings). s.aborts) (settings-more 0 directives (Timeout seconds))

aborts-with : (step : Step) (directives : List Directive) (timeout : ℕ)
    → aborts_of (directives ++ directives_in (step ∷ [])) ≡ (settings_with step (record { aborts = aborts_of directives; timeout = timeout })).aborts
aborts-with (Direct directive) directives timeout = aborts-more directives directive timeout
aborts-with (Expect text) directives timeout = ap aborts_of (append-nil directives)
aborts-with Met directives timeout = ap aborts_of (append-nil directives)
aborts-with (Send octets) directives timeout = ap aborts_of (append-nil directives)
aborts-with (Pause milliseconds) directives timeout = ap aborts_of (append-nil directives)

-- Behind a step those are set that it leaves.
pub set-behind : (steps : List Step) (place : ℕ) (step : Step) (s : Settings) → slice_get steps place ≡ Some step
    → AreSetAt steps place s.aborts → AreSetAt steps (place + 1) (settings_with step s).aborts
set-behind steps place step s is set =
    ap (λ (l : List (List ℕ)). (settings_with step (record { aborts = l; timeout = s.timeout })).aborts) set
    ∙ sym (ap aborts_of (up-to steps place step is) ∙ aborts-with step (directives_in (take place steps)) s.timeout)

length-map : (f : ℕ → List ℕ) (xs : List ℕ) → length (map f xs) ≡ length xs
length-map f [] = refl
length-map f (x ∷ xs) = rw (length-map f xs) refl

-- so many are kept as are set
pub kept-count : (steps : List Step) (d : Directives) (aborts : List (List ℕ)) → (kept_settings steps d).aborts ≡ aborts → length d.aborts.items ≡ length aborts
kept-count steps d aborts is = sym (length-map (abort_at steps) d.aborts.items) ∙ ap (λ (l : List (List ℕ)). length l) is

abort-room : (steps : List Step) (place count : ℕ) (text : List ℕ) → AreFew steps → slice_get steps place ≡ Some (Direct (Abort text))
    → count ≡ length (aborts_of (directives_in (take place steps))) → count < 50
abort-room steps place count text few is same =
    let before : List Directive = directives_in (take place steps) in
    let more : aborts_of (directives_in (take (place + 1) steps)) ≡ aborts_of before ++ text ∷ [] =
    ap aborts_of (up-to steps place (Direct (Abort text)) is) ∙ aborts-more before (Abort text) 0 in
    omega (arith, same, few (place + 1), ap (λ (l : List (List ℕ)). length l) more, length-append (aborts_of before) (text ∷ []))

-- Where a step of a script sets an abort string, there is room for it.
pub room-at : (steps : List Step) (place : ℕ) (step : Step) (d : Directives) → AreFew steps → slice_get steps place ≡ Some step
    → AreSetAt steps place (kept_settings steps d).aborts → HasRoom step (length d.aborts.items)
room-at steps place (Direct (Abort text)) d few is set =
    abort-room steps place (length d.aborts.items) text few is (kept-count steps d (aborts_of (directives_in (take place steps))) set)
room-at steps place (Direct (ClearAbort text)) d few is set = tt
room-at steps place (Direct (Timeout seconds)) d few is set = tt
room-at steps place (Expect text) d few is set = tt
room-at steps place Met d few is set = tt
room-at steps place (Send octets) d few is set = tt
room-at steps place (Pause milliseconds) d few is set = tt
