-- What a chat answers at a call, and what that leads to: the rules, cut at the answer.
use Rattle.std.specs.Prelude.{ℕ, Option, None, Some, List, [], ◌∷◌, ◌++◌}
use Rattle.ppp_chat.specs.declared.event.Event.{Event}
use Rattle.ppp_chat.specs.declared.now.ChatNow.{ChatNow}
use Rattle.ppp_chat.specs.Event.{octet_at, tick_at}
use Rattle.ppp_chat.specs.Script.{ChatScript}
use Rattle.ppp_link_rules.specs.Hearing.{chat_answer, chat_told, link_opened}
use Rattle.ppp_link_rules.specs.LinkState.{LinkState, Listener, Nobody, Chatting, Framing}

-- A chat begins, where there is a script: its answer, the state with the call, and what the answer leads to.
abbrev pub first_answer_by : Option ChatScript → ℕ → Option ChatNow
first_answer_by None now = None
first_answer_by (Some script) now = Some (chat_answer (Some script) [] (tick_at now))

abbrev pub first_answer : LinkState → Option ChatNow
first_answer s = first_answer_by s.config.script s.time

abbrev pub chat_begun_by : Option ChatScript → LinkState → LinkState
chat_begun_by None s = s
chat_begun_by (Some script) s = record s { listener = Chatting (tick_at s.time ∷ []) }

abbrev pub chat_begun : LinkState → LinkState
chat_begun s = chat_begun_by s.config.script s

abbrev pub beginning_told : Option ChatNow → LinkState → LinkState
beginning_told None s = link_opened s
beginning_told (Some answer) s = chat_told answer s

-- A chat that runs, likewise, with an octet or as it looks at the time.
abbrev pub calls_of : Listener → List Event
calls_of Nobody = []
calls_of (Chatting calls) = calls
calls_of Framing = []

abbrev pub next_answer : Event → LinkState → ChatNow
next_answer event s = chat_answer s.config.script (calls_of s.listener) event

abbrev pub chat_with : Event → LinkState → LinkState
chat_with event s = record s { listener = Chatting (calls_of s.listener ++ event ∷ []) }

abbrev pub octet_told : ℕ → LinkState → LinkState
octet_told octet s = chat_with (octet_at octet s.time) s

abbrev pub tick_told : LinkState → LinkState
tick_told s = chat_with (tick_at s.time) s
