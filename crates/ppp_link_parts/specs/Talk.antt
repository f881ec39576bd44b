-- A link's chat with who hears its line, and which listener of the plain state it stands for.
use Rattle.std.specs.Prelude.{◌≡◌, true, Option, is_some, IfSome, option_map, ⊤}
use Rattle.ppp_chat.specs.ChatState.{ChatState, IsBegun, StandsFor}
use Rattle.ppp_chat.specs.Script.{ChatScript}
use Rattle.ppp_link_rules.specs.LinkState.{Listener, Nobody, Chatting, Framing}
use Rattle.ppp_link_parts.specs.declared.talk.Hears.{Hears}
use Rattle.ppp_link_parts.specs.declared.talk.Hears.TheVariants as hears

pub record TalkNow : Type 0 where
  pub chat : Option ChatState
  pub who : Hears

-- A chat that hears has begun.
pub record IsTalking (chat : Option ChatState) (who : Hears) : Type 0 where
  pub is_there : who ≡ hears.Chat → is_some chat ≡ true
  pub begun : who ≡ hears.Chat → IfSome chat IsBegun

abbrev pub who_of : Listener → Hears
who_of Nobody = hears.Nobody
who_of (Chatting calls) = hears.Chat
who_of Framing = hears.Frames

-- the chat stands for its calls
abbrev pub ChatStands : Option ChatState → Listener → Type 0
ChatStands chat Nobody = ⊤
ChatStands chat (Chatting calls) = IfSome chat (λ c. StandsFor c calls)
ChatStands chat Framing = ⊤

pub record Listens (script : Option ChatScript) (talk : TalkNow) (listener : Listener) : Type 0 where
  pub by_script : option_map (λ (c : ChatState). c.script) talk.chat ≡ script
  pub who : talk.who ≡ who_of listener
  pub stands : ChatStands talk.chat listener
