-- The events of a link, as plain values: an errand that comes back is told by what it carries.
use Rattle.std.specs.Prelude.{ℕ, Bool, List}
use Rattle.ppp_base.specs.declared.hook_target.HookTarget.{HookTarget}
use Rattle.ppp_base.specs.declared.posts.Post.{Post}
use Rattle.ppp_base.specs.declared.signal_word.SignalWord.{SignalWord}
use Rattle.ppp_outside.specs.declared.spawner.ScriptEnd.{ScriptEnd}
use Rattle.ppp_link_rules.specs.declared.errand.ReadEnd.{ReadEnd}
use Rattle.ppp_link_rules.specs.declared.errand.SentEnd.{SentEnd}

-- The link begins. A dial has come back, with a line or without one. A piece of what the line gave. The reading, or a writing, has come back. The
-- time. A signal. A post of the table. A script has ended.
pub data Event : Type 0 where
  Begin : Event
  Dialled : (link session failed : ℕ) → (came : Bool) → Event
  Bytes : (link session offset : ℕ) → (octets : List ℕ) → Event
  LineOver : (link session : ℕ) → (how : ReadEnd) → Event
  Flushed : (link session : ℕ) → (how : SentEnd) → Event
  Tick : (now : ℕ) → Event
  Signal : (word : SignalWord) → Event
  FromTable : (post : Post) → Event
  HookOver : (target : HookTarget) → (job not_started : ℕ) → (answer : ScriptEnd) → Event
