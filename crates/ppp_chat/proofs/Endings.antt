-- The first ending, when the first of the events is taken off.
use Rattle.std.proofs.Common.{ℕ, ◌≡◌, zero, suc, Bool, true, false, cond, nat_le, Option, None, Some, List, [], ◌∷◌, ◌++◌, length, take, refl, sym, ap, ◌∙◌, append_assoc}
use Rattle.std.specs.List.{cons_option}
use Rattle.ppp_chat.specs.ChatOf.{Course}
use Rattle.ppp_chat.specs.Course.{Following, at_ending, awaiting, delaying}
use Rattle.ppp_chat.specs.Ending.{Awaited, ending, ending_at, delay_end_at, event_at, first_from, here_or}
use Rattle.ppp_chat.specs.Event.{Event, heard}
use Rattle.ppp_chat.specs.declared.ending.Ending.{Ending}
use Rattle.ppp_chat.specs.declared.ending.Ending.TheVariants.{TimeHasCome, Found, AbortFound}

-- one place further
shifted : Option (ℕ × Ending) → Option (ℕ × Ending)
shifted None = None
shifted (Some (place, found)) = Some (suc place, found)

here-shifted : (place : ℕ) (o : Option Ending) (r : Option (ℕ × Ending)) → here_or (suc place) o (shifted r) ≡ shifted (here_or place o r)
unfolding shifted
here-shifted place None r = refl
here-shifted place (Some ending) r = refl

from-shifted : (ends : ℕ → Option Ending) (place count : ℕ) → first_from ends (suc place) count ≡ shifted (first_from (λ i. ends (suc i)) place count)
unfolding shifted
from-shifted ends place zero = refl
from-shifted ends place (suc count) =
    ap (λ r. here_or (suc place) (ends (suc place)) r) (from-shifted ends (suc place) count)
    ∙ here-shifted place (ends (suc place)) (first_from (λ i. ends (suc i)) (suc place) count)

-- two tests that agree find the same
pub from-same : (f g : ℕ → Option Ending) → ((i : ℕ) → f i ≡ g i) → (place count : ℕ) → first_from f place count ≡ first_from g place count
from-same f g same place zero = refl
from-same f g same place (suc count) =
    ap (λ o. here_or place o (first_from f (suc place) count)) (same place)
    ∙ ap (λ r. here_or place (g place) r) (from-same f g same (suc place) count)

ending-shifted : (r : Option (ℕ × Ending)) (found late : Following) (event : Event) (later : List Event)
    → at_ending (shifted r) found late (event ∷ later) ≡ at_ending r found late later
unfolding shifted
ending-shifted None found late event later = refl
ending-shifted (Some (place, TimeHasCome)) found late event later = refl
ending-shifted (Some (place, Found)) found late event later = refl
ending-shifted (Some (place, AbortFound number)) found late event later = refl

cons-is : (o : Option ℕ) (before more : List ℕ) → before ++ cons_option o more ≡ (before ++ cons_option o []) ++ more
cons-is None before more = sym (append_assoc before [] more)
cons-is (Some octet) before more = sym (append_assoc before (octet ∷ []) more)

-- the test behind the first event is that of the later ones
at-behind : (x : Awaited) (before : List ℕ) (event : Event) (later : List Event) (i : ℕ)
    → ending_at x before (event ∷ later) (suc i) ≡ ending_at x (before ++ cons_option event.octet []) later i
at-behind x before event later i = ap (λ octets. ending x octets (event_at later i)) (cons-is event.octet before (heard (take (suc i) later)))

-- what an ending with the first event gives, or the other where it has none
abbrev pub first_or : Option Ending → Following → Following → Event → List Event → Course → Course
first_or None found late event later other = other
first_or (Some TimeHasCome) found late event later other = late event.at later
first_or (Some Found) found late event later other = found event.at later
first_or (Some (AbortFound number)) found late event later other = at_ending (Some (0, AbortFound number)) found late later

at-first : (o : Option Ending) (r : Option (ℕ × Ending)) (found late : Following) (event : Event) (later : List Event)
    → at_ending (here_or 0 o (shifted r)) found late (event ∷ later) ≡ first_or o found late event later (at_ending r found late later)
at-first None r found late event later = ending-shifted r found late event later
at-first (Some TimeHasCome) r found late event later = refl
at-first (Some Found) r found late event later = refl
at-first (Some (AbortFound number)) r found late event later = refl

-- An expect, with its first event taken off.
pub awaiting-cons : (x : Awaited) (before : List ℕ) (found late : Following) (event : Event) (later : List Event)
    → awaiting x before found late (event ∷ later)
    ≡ first_or (ending x (before ++ cons_option event.octet []) event) found late event later
    (awaiting x (before ++ cons_option event.octet []) found late later)
awaiting-cons x before found late event later =
    let now = ending_at x before (event ∷ later) 0 in
    ap (λ r. at_ending (here_or 0 now r) found late (event ∷ later))
    (from-shifted (ending_at x before (event ∷ later)) 0 (length later)
    ∙ ap shifted (from-same (λ i. ending_at x before (event ∷ later) (suc i)) (ending_at x (before ++ cons_option event.octet []) later)
    (at-behind x before event later) 0 (length later)))
    ∙ at-first now (first_from (ending_at x (before ++ cons_option event.octet []) later) 0 (length later)) found late event later

chosen : (b : Bool) (then : Following) (event : Event) (later : List Event) (other : Course)
    → first_or (cond b (Some TimeHasCome) None) then then event later other ≡ cond b (then event.at later) other
chosen true then event later other = refl
chosen false then event later other = refl

-- A delay, with its first event taken off.
pub delaying-cons : (until : ℕ) (then : Following) (event : Event) (later : List Event)
    → delaying until then (event ∷ later) ≡ cond (nat_le until event.at) (then event.at later) (delaying until then later)
delaying-cons until then event later =
    let now = delay_end_at until (event ∷ later) 0 in
    ap (λ r. at_ending (here_or 0 now r) then then (event ∷ later)) (from-shifted (delay_end_at until (event ∷ later)) 0 (length later))
    ∙ at-first now (first_from (delay_end_at until later) 0 (length later)) then then event later
    ∙ chosen (nat_le until event.at) then event later (delaying until then later)
