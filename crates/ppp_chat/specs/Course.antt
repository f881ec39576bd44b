-- What a script sends and how it ends from one of its steps on: the code's own form of `ChatOf`, to which `laws::steps_say_the_same` ties it.
use Rattle.std.specs.Prelude.{ℕ, ◌+◌, ◌*◌, suc, Bool, true, false, if◌then◌else◌, Option, None, Some, List, [], ◌∷◌, ◌++◌, length, drop, filter, nat_eq, not}
use Rattle.std.specs.Cmp.Lexicographic.{pointwise}
use Rattle.ppp_chat.specs.ChatOf.{Course}
use Rattle.ppp_chat.specs.Event.{Event}
use Rattle.ppp_chat.specs.Ending.{Awaited, event_at, ending_at, delay_end_at, first_from}
use Rattle.ppp_chat.specs.Settings.{Settings}
use Rattle.ppp_chat.specs.declared.directive.Directive.{Directive}
use Rattle.ppp_chat.specs.declared.directive.Directive.TheVariants.{Abort, ClearAbort, Timeout}
use Rattle.ppp_chat.specs.declared.ending.Ending.{Ending}
use Rattle.ppp_chat.specs.declared.ending.Ending.TheVariants.{TimeHasCome, Found, AbortFound}
use Rattle.ppp_chat.specs.declared.step.Step.{Step}
use Rattle.ppp_chat.specs.declared.step.Step.TheVariants.{Direct, Expect, Met, Send, Pause}
use Rattle.ppp_chat.specs.declared.now.ChatEnd.{ChatEnd}
use Rattle.ppp_chat.specs.declared.now.ChatEnd.TheVariants.{Done, TimedOut, Aborted}

-- it goes on, and nothing more is sent so far
abbrev pub going : Course
going = record { sent = []; outcome = None }

abbrev pub ended : ChatEnd → Course
ended how = record { sent = []; outcome = Some how }

-- these octets, and then the rest
abbrev pub sending : List ℕ → Course → Course
sending octets rest = record { sent = octets ++ rest.sent; outcome = rest.outcome }

-- what a directive changes
abbrev pub obeyed : Directive → Settings → Settings
obeyed (Abort text) s = record { aborts = s.aborts ++ text ∷ []; timeout = s.timeout }
obeyed (ClearAbort text) s = record { aborts = filter (λ (abort : List ℕ). not (pointwise nat_eq abort text)) s.aborts; timeout = s.timeout }
obeyed (Timeout seconds) s = record { aborts = s.aborts; timeout = seconds * 1000 }

-- whether nothing follows an expect for which it is late
abbrev pub is_last_part : List Step → Bool
is_last_part [] = true
is_last_part (Met ∷ steps) = true
is_last_part (step ∷ steps) = false

-- What follows a moment and the events after it.
abbrev pub Following : Type 0
Following = ℕ → List Event → Course

-- with the next event
abbrev pub at_next : Following → List Event → Course
at_next rest [] = going
at_next rest (event ∷ later) = rest event.at later

-- with the event at this place, and the events after it
abbrev pub at_place : ℕ → Following → List Event → Course
at_place place rest later = rest (event_at later place).at (drop (suc place) later)

-- where the first ending is found
abbrev pub at_ending : Option (ℕ × Ending) → Following → Following → List Event → Course
at_ending None found late later = going
at_ending (Some (place, TimeHasCome)) found late later = at_place place late later
at_ending (Some (place, Found)) found late later = at_place place found later
at_ending (Some (place, AbortFound number)) found late later = ended (Aborted number)

-- An expect, before whose first event these octets have come, ends at the first later event with which it may.
abbrev pub awaiting : Awaited → List ℕ → Following → Following → List Event → Course
awaiting x before found late later = at_ending (first_from (ending_at x before later) 0 (length later)) found late later

-- A delay ends at the first later event whose moment is this one or later.
abbrev pub delaying : ℕ → Following → List Event → Course
delaying until rest later = at_ending (first_from (delay_end_at until later) 0 (length later)) rest rest later

-- What is sent and how it ends, from these steps on, at the event of this moment.
-- `met` says that the expect of this word was met: what is left of the word is passed over.
-- `has_sent` says that the call of this event has sent octets: the next octets, or the end, wait for the next event.
abbrev pub course : List Step → Bool → Settings → ℕ → Bool → List Event → Course
course [] met s now has_sent later = if has_sent then at_next (λ (next : ℕ) (more : List Event). ended Done) later else ended Done
course (Met ∷ steps) met s now has_sent later = course steps false s now has_sent later
course (Direct directive ∷ steps) met s now has_sent later = course steps met (obeyed directive s) now has_sent later
course (step ∷ steps) true s now has_sent later = course steps true s now has_sent later
course (Expect [] ∷ steps) false s now has_sent later = course steps true s now has_sent later
course (Expect (octet ∷ octets) ∷ steps) false s now has_sent later =
    awaiting (record { text = octet ∷ octets; until = now + s.timeout; aborts = s.aborts }) []
    (λ (found : ℕ) (more : List Event). course steps true s found false more)
    (λ (late : ℕ) (more : List Event). if is_last_part steps then ended TimedOut else course steps false s late false more)
    later
course (Send [] ∷ steps) false s now has_sent later = course steps false s now has_sent later
course (Send (octet ∷ octets) ∷ steps) false s now has_sent later =
    if has_sent then at_next (λ (next : ℕ) (more : List Event). sending (octet ∷ octets) (course steps false s next true more)) later
    else sending (octet ∷ octets) (course steps false s now true later)
course (Pause milliseconds ∷ steps) false s now has_sent later =
    delaying (now + milliseconds) (λ (next : ℕ) (more : List Event). course steps false s next false more) later
