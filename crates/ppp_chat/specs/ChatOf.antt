-- What a script sends and how it ends (chat(8), "Chat script"), over the calls since it was begun.
use Rattle.std.specs.Prelude.{ℕ, ◌+◌, suc, Bool, true, false, if◌then◌else◌, Option, None, Some, List, [], ◌∷◌, ◌++◌, length, drop}
use Rattle.ppp_chat.specs.Event.{Event}
use Rattle.ppp_chat.specs.Ending.{Awaited, event_at, ending_at, delay_end_at, first_from}
use Rattle.ppp_chat.specs.Script.{SendPart, Octets, Delay, Instead, Item, Directs, Pair, ChatScript}
use Rattle.ppp_chat.specs.Settings.{Settings, settings_after}
use Rattle.ppp_chat.specs.declared.directive.Directive.{Directive}
use Rattle.ppp_chat.specs.declared.ending.Ending.{Ending}
use Rattle.ppp_chat.specs.declared.ending.Ending.TheVariants.{TimeHasCome, Found, AbortFound}
use Rattle.ppp_chat.specs.declared.now.ChatEnd.{ChatEnd}
use Rattle.ppp_chat.specs.declared.now.ChatEnd.TheVariants.{Done, TimedOut, Aborted}

-- what has been sent, and how the script has ended, if it has
pub record Course : Type 0 where
  pub sent : List ℕ
  pub outcome : Option ChatEnd

-- Where a script is: the moment of an event, whether octets were sent with it, and the events after it. Places are counted from the first of those.
pub record Point : Type 0 where
  pub now : ℕ
  pub has_sent : Bool
  pub later : List Event

-- how far a part of a script has come: it is done and this is the point behind it, or it waits behind all events, or the script has ended
pub data Reach : Type 0 where
  Behind : Point → Reach
  Waits : Reach
  Ends : ChatEnd → Reach

-- what a part of a script has sent, and how far it has come
pub record Run : Type 0 where
  pub sent : List ℕ
  pub reach : Reach

abbrev pub done_at : Point → Run
done_at p = record { sent = []; reach = Behind p }

abbrev pub waits : Run
waits = record { sent = []; reach = Waits }

abbrev pub ends : ChatEnd → Run
ends how = record { sent = []; reach = Ends how }

-- a part, and the next one from the point behind it
abbrev pub from_reach : List ℕ → Reach → (Point → Run) → Run
from_reach sent (Behind p) next = record { sent = sent ++ (next p).sent; reach = (next p).reach }
from_reach sent Waits next = record { sent = sent; reach = Waits }
from_reach sent (Ends how) next = record { sent = sent; reach = Ends how }

abbrev pub and_then : Run → (Point → Run) → Run
and_then run next = from_reach run.sent run.reach next

-- the point of the event at this place
abbrev pub point_at : List Event → ℕ → Point
point_at later place = record { now = (event_at later place).at; has_sent = false; later = drop (suc place) later }

-- with the next event
abbrev pub with_next : List Event → (Point → Run) → Run
with_next [] run = waits
with_next (event ∷ later) run = run (record { now = event.at; has_sent = false; later = later })

abbrev pub sent_at : List ℕ → Point → Run
sent_at octets p = record { sent = octets; reach = Behind (record p { has_sent = true }) }

-- Octets are sent with this event, or with the next one, where others were sent with this. No octets are no send.
abbrev pub send_octets : List ℕ → Point → Run
send_octets [] p = done_at p
send_octets (octet ∷ octets) p = if p.has_sent then with_next p.later (sent_at (octet ∷ octets)) else sent_at (octet ∷ octets) p

-- What follows the first ending, if there is one. `late` is what follows where the time has come.
abbrev pub behind_ending : Option (ℕ × Ending) → List Event → (Point → Run) → Run
behind_ending None later late = waits
behind_ending (Some (place, TimeHasCome)) later late = late (point_at later place)
behind_ending (Some (place, Found)) later late = done_at (point_at later place)
behind_ending (Some (place, AbortFound number)) later late = ends (Aborted number)

-- A delay ends with the first later event whose moment is not before its end.
abbrev pub wait_for : ℕ → Point → Run
wait_for milliseconds p = behind_ending (first_from (delay_end_at (p.now + milliseconds) p.later) 0 (length p.later)) p.later done_at

abbrev pub send_part : SendPart → Point → Run
send_part (Octets octets) p = send_octets octets p
send_part (Delay milliseconds) p = wait_for milliseconds p

-- a send: its parts, one after the other
abbrev pub send_all : List SendPart → Point → Run
send_all [] p = done_at p
send_all (part ∷ parts) p = and_then (send_part part p) (send_all parts)

-- A string that is expected from this event on is met with the first later event that ends it. An empty one is met at once.
abbrev pub await_text : Settings → List ℕ → Point → (Point → Run) → Run
await_text s [] p late = done_at p
await_text s (octet ∷ octets) p late =
    let x : Awaited = record { text = octet ∷ octets; until = p.now + s.timeout; aborts = s.aborts } in
    behind_ending (first_from (ending_at x [] p.later) 0 (length p.later)) p.later late

-- An expect: where a string is late, what is sent instead, and then the next string; where none is left, the script has timed out.
abbrev pub expect_any : Settings → List ℕ → List Instead → Point → Run
expect_any s text [] p = await_text s text p (λ (late : Point). ends TimedOut)
expect_any s text (other ∷ others) p = await_text s text p (λ (late : Point). and_then (send_all other.send late) (expect_any s other.text others))

-- The items, one after the other, behind these directives.
abbrev pub run_items : ℕ → List Directive → List Item → Point → Run
run_items timeout_s before [] p = done_at p
run_items timeout_s before (Directs directive ∷ items) p = run_items timeout_s (before ++ directive ∷ []) items p
run_items timeout_s before (Pair expected send ∷ items) p =
    and_then (expect_any (settings_after timeout_s before) expected.text expected.instead p)
    (λ (met : Point). and_then (send_all send met) (run_items timeout_s before items))

-- Behind the last item the script has ended, with the next event where octets were sent with this one.
abbrev pub end_at : Point → Run
end_at p = if p.has_sent then with_next p.later (λ (next : Point). ends Done) else ends Done

abbrev pub outcome_at : Reach → Option ChatEnd
outcome_at (Behind p) = None
outcome_at Waits = None
outcome_at (Ends how) = Some how

-- What a script has sent and how it has ended. The first event is the call that begins it.
abbrev pub course_at : ChatScript → Point → Course
course_at script p =
    let run : Run = and_then (run_items script.timeout_s [] script.items p) end_at in
    record { sent = run.sent; outcome = outcome_at run.reach }

abbrev pub ChatOf : ChatScript → List Event → Course
ChatOf script [] = record { sent = []; outcome = None }
ChatOf script (begin ∷ later) = course_at script (record { now = begin.at; has_sent = false; later = later })
