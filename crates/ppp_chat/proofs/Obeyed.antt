-- One more step, and what the steps set.
use Rattle.std.proofs.Common.{ℕ, ◌≡◌, ◌+◌, ◌≤◌, ◌<◌, zero, suc, slice_get, List, [], ◌∷◌, ◌++◌, map, length, take, get_or, refl, sym, ap, ◌∙◌, arith, append-nil, length-append, ◌⊎◌, inl, inr}
use Rattle.ppp_chat.specs.Obeyed.{AreObeyed}
use Rattle.ppp_chat.specs.Room.{AreFew, settings_with}
use Rattle.ppp_chat.specs.Settings.{Settings, aborts_of, settings_after}
use Rattle.ppp_chat.specs.Steps.{directives_in}
use Rattle.ppp_chat.specs.Texts.{AreBelow, AreShort, IsShort, abort_at, kept_settings}
use Rattle.ppp_chat.specs.declared.directive.Directive.{Directive}
use Rattle.ppp_chat.specs.declared.directives.Directives.{Directives}
use Rattle.ppp_chat.specs.declared.step.Step.{Step}
use Rattle.ppp_chat.specs.declared.step.Step.TheVariants.{Direct, Expect, Met, Send, Pause}
use Rattle.ppp_chat.proofs.FlatItems.{directives-append}
use Rattle.ppp_chat.proofs.Rooms.{kept-count}
use Rattle.ppp_chat.proofs.SettingsSteps.{settings-more}

take-none : (count : ℕ) → take {A = Step} count [] ≡ []
take-none zero = refl
take-none (suc count) = refl

get-before : (steps : List Step) (step : Step) (place : ℕ) → place < length steps → slice_get (steps ++ step ∷ []) place ≡ slice_get steps place
get-before [] step place within = absurd (omega arith)
get-before (first ∷ steps) step zero within = refl
get-before (first ∷ steps) step (suc place) within = get-before steps step place (omega arith)

aborts-before : (steps : List Step) (step : Step) (places : List ℕ) → AreBelow (length steps) places
    → map (abort_at (steps ++ step ∷ [])) places ≡ map (abort_at steps) places
aborts-before steps step [] below = refl
aborts-before steps step (place ∷ places) below =
    rw (get-before steps step place below.0, aborts-before steps step places below.1) refl

below-more : (end : ℕ) (places : List ℕ) → AreBelow end places → AreBelow (end + 1) places
below-more end [] below = tt
below-more end (place ∷ places) below = (omega (arith, below.0), below-more end places below.1)

pub below-push : (end : ℕ) (places : List ℕ) (place : ℕ) → AreBelow end places → place < end → AreBelow end (places ++ place ∷ [])
below-push end [] place below one = (one, tt)
below-push end (first ∷ places) place below one = (below.0, below-push end places place below.1 one)

pub below-at : (end : ℕ) (places : List ℕ) (i : ℕ) → AreBelow end places → i < length places → get_or places i 0 < end
below-at end [] i below within = absurd (omega arith)
below-at end (place ∷ places) zero below within = below.0
below-at end (place ∷ places) (suc i) below within = below-at end places i below.1 (omega arith)

short-push : (steps : List Step) (step : Step) → AreShort steps → IsShort step → AreShort (steps ++ step ∷ [])
short-push [] step short one = (one, tt)
short-push (first ∷ steps) step short one = (short.0, short-push steps step short.1 one)

take-cases : (steps : List Step) (step : Step) (count : ℕ) → (take count (steps ++ step ∷ []) ≡ take count steps) ⊎ (take count (steps ++ step ∷ []) ≡ steps ++ step ∷ [])
take-cases [] step zero = inl refl
take-cases [] step (suc count) = inr (ap (λ (l : List Step). step ∷ l) (take-none count))
take-cases (first ∷ steps) step zero = inl refl
take-cases (first ∷ steps) step (suc count) =
    elim (take-cases steps step count) [
      | inl is ↦ inl (ap (λ (l : List Step). first ∷ l) is)
      | inr is ↦ inr (ap (λ (l : List Step). first ∷ l) is)
    ]

few-push : (steps : List Step) (step : Step) → AreFew steps → length (aborts_of (directives_in (steps ++ step ∷ []))) ≤ 50 → AreFew (steps ++ step ∷ [])
few-push steps step few whole count =
    elim (take-cases steps step count) [
      | inl is ↦ rw is (few count)
      | inr is ↦ rw is whole
    ]

with-step : (first : ℕ) (directives : List Directive) (step : Step)
    → settings_with step (settings_after first directives) ≡ settings_after first (directives ++ directives_in (step ∷ []))
with-step first directives (Direct directive) = sym (settings-more first directives directive)
with-step first directives (Expect text) = ap (λ (l : List Directive). settings_after first l) (sym (append-nil directives))
with-step first directives Met = ap (λ (l : List Directive). settings_after first l) (sym (append-nil directives))
with-step first directives (Send octets) = ap (λ (l : List Directive). settings_after first l) (sym (append-nil directives))
with-step first directives (Pause milliseconds) = ap (λ (l : List Directive). settings_after first l) (sym (append-nil directives))

-- With one step more, which was obeyed, the steps are.
pub obeyed_push : (steps : List Step) (step : Step) (d new : Directives) → AreObeyed steps d → IsShort step
    → kept_settings (steps ++ step ∷ []) new ≡ settings_with step (kept_settings (steps ++ step ∷ []) d)
    → ((end : ℕ) → length steps < end → AreBelow end d.aborts.items → AreBelow end new.aborts.items)
    → (length d.aborts.items ≤ 50 → length new.aborts.items ≤ 50)
    → AreObeyed (steps ++ step ∷ []) new
obeyed_push steps step d new obeyed short set below room =
    let all : List Step = steps ++ step ∷ [] in
    let is : kept_settings all new ≡ settings_after 0 (directives_in all) =
    set
    ∙ ap (λ (places : List (List ℕ)). settings_with step (record { aborts = places; timeout = d.timeout_ms })) (aborts-before steps step d.aborts.items obeyed.below)
    ∙ ap (λ (s : Settings). settings_with step s) obeyed.set
    ∙ with-step 0 (directives_in steps) step
    ∙ ap (λ (l : List Directive). settings_after 0 l) (sym (directives-append steps (step ∷ []))) in
    let count : length new.aborts.items ≡ length (aborts_of (directives_in all)) =
    kept-count all new (aborts_of (directives_in all)) (ap (λ (s : Settings). s.aborts) is) in
    record {
      short = short-push steps step obeyed.short short;
      few = few-push steps step obeyed.few (omega (arith, room obeyed.room, count));
      below =
          let more : length (steps ++ step ∷ []) ≡ length steps + 1 = omega (arith, length-append steps (step ∷ [])) in
          rw more (below (length steps + 1) (omega arith) (below-more (length steps) d.aborts.items obeyed.below));
      room = room obeyed.room;
      set = is;
    }

same-settings : (step : Step) (s : Settings) → ((directive : Directive) → step ≡ Direct directive → ⊥) → s ≡ settings_with step s
same-settings (Direct directive) s other = absurd (other directive refl)
same-settings (Expect text) s other = refl
same-settings Met s other = refl
same-settings (Send octets) s other = refl
same-settings (Pause milliseconds) s other = refl

-- With one step more, which is no directive, the steps are obeyed.
pub obeyed_same : (steps : List Step) (step : Step) (d : Directives) → AreObeyed steps d → IsShort step
    → ((directive : Directive) → step ≡ Direct directive → ⊥) → AreObeyed (steps ++ step ∷ []) d
obeyed_same steps step d obeyed short other =
    obeyed_push steps step d d obeyed short (same-settings step (kept_settings (steps ++ step ∷ []) d) other) (λ end within below. below) (λ room. room)

few-none : AreFew []
few-none count = rw (take-none count) (omega arith)

-- Before any step, none is obeyed.
pub obeyed_none : (steps : List Step) (d : Directives) → steps ≡ [] → d.aborts.items ≡ [] → kept_settings steps d ≡ settings_after 0 [] → AreObeyed steps d
obeyed_none steps d none empty set = record {
  short = rw none tt;
  few = rw none few-none;
  below = rw empty tt;
  room = rw empty (omega arith);
  set = set ∙ sym (ap (λ (l : List Step). settings_after 0 (directives_in l)) none);
}

-- what is kept of places below an end is below it, with one more of them
pub kept_below : (end : ℕ) (all kept : List ℕ) (i : ℕ) → (AreBelow end all → AreBelow end kept) → i < length all
    → AreBelow end all → AreBelow end (kept ++ get_or all i 0 ∷ [])
kept_below end all kept i so_far within below = below-push end kept (get_or all i 0) (so_far below) (below-at end all i below within)
