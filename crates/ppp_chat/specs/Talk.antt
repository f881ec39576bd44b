-- A conversation that was begun, as what it will send and how it will end, whatever comes.
use Rattle.std.specs.Prelude.{ℕ, ◌==◌, List, [], ◌∷◌, ◌++◌, drop, length, Result}
use Rattle.std.specs.List.{slice_split}
use Rattle.ppp_chat.specs.ChatOf.{Course, ChatOf}
use Rattle.ppp_chat.specs.ChatState.{answer}
use Rattle.ppp_chat.specs.Event.{Event}
use Rattle.ppp_chat.specs.Script.{Item}
use Rattle.ppp_chat.specs.Words.{ok_map, script_of}
use Rattle.ppp_chat.specs.declared.fault.ScriptFault.{ScriptFault}
use Rattle.ppp_chat.specs.declared.now.ChatNow.{ChatNow}

abbrev pub Talking : Type 0
Talking = List Event → Course

-- what is answered to an event: the octets that are sent at it, else how the script has ended
abbrev pub told : Event → Talking → ChatNow
told event talk = answer (talk (event ∷ [])).sent (talk (event ∷ [])).outcome

-- what is to come behind it
abbrev pub behind : Event → Talking → Talking
behind event talk later = record (talk (event ∷ later)) { sent = drop (length (talk (event ∷ [])).sent) (talk (event ∷ later)).sent }

-- the answer to an event behind these
abbrev pub answer_after : Talking → List Event → Event → ChatNow
answer_after talk before event = answer (drop (length (talk before).sent) (talk (before ++ event ∷ [])).sent) (talk (before ++ event ∷ [])).outcome

-- the answers to events, one after the other, behind these
abbrev pub answers_behind : Talking → List Event → List Event → List ChatNow
answers_behind talk before [] = []
answers_behind talk before (event ∷ later) = answer_after talk before event ∷ answers_behind talk (before ++ event ∷ []) later

-- What the words of a text say to events, of which the first begins the script: the answers, or the fault of the words.
-- Spaces part the words, and an expect is late after so many seconds where no word says others.
abbrev pub says : List ℕ → ℕ → List Event → Result (List ChatNow) ScriptFault
says text timeout_s events =
    ok_map (λ (items : List Item). answers_behind (ChatOf (record { items = items; timeout_s = timeout_s })) [] events)
    (script_of (slice_split (λ (octet : ℕ). octet == 32) text))
