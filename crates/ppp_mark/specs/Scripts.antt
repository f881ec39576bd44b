-- What the marks of a log say of site scripts (pppd(8), "Scripts"). Here the newest mark comes first.
-- It is the one reading of kinds: a link's scripts go by what its peer has proved, a unit's by IP.
use Rattle.std.specs.Prelude.{ℕ, ◌==◌, ◌<◌, ◌≡◌, ◌||◌, ◌⊎◌, Bool, true, false, List, [], ◌∷◌, ⊤, reverse, if◌then◌else◌}
use Rattle.ppp_outside.specs.declared.spawner.ScriptEnd.{ScriptEnd}
use Rattle.ppp_outside.specs.declared.spawner.ScriptEnd.TheVariants.{Exit, Killed, NotStarted}
use Rattle.ppp_hooks.specs.HookLaw.{HookLaw}
use Rattle.ppp_hooks.specs.HookMark.{HookMark, Opened, Closed, Started, Ended}
use Rattle.ppp_hooks.specs.HookPast.{ends_in, not_started_in, starts_in}
use Rattle.ppp_hooks.specs.HookPlace.{MayStand}
use Rattle.ppp_hooks.specs.HookRule.{due_after}
use Rattle.ppp_hooks.specs.Settled.{Settled}
use Rattle.ppp_mark.specs.declared.mark.Mark.{Mark}
use Rattle.ppp_mark.specs.declared.kind.TheConstants.{AUTH_OPEN, AUTH_CLOSED, IP_OPEN, IP_CLOSED, START, ENDED}
use Rattle.ppp_mark.specs.Marks.{started_mark}

abbrev pub is_open_kind : ℕ → Bool
is_open_kind kind = kind == AUTH_OPEN || kind == IP_OPEN

abbrev pub is_closed_kind : ℕ → Bool
is_closed_kind kind = kind == AUTH_CLOSED || kind == IP_CLOSED

-- whether a mark of this kind says something of scripts
abbrev pub says_scripts : ℕ → Bool
says_scripts kind = is_open_kind kind || is_closed_kind kind || kind == START || kind == ENDED

-- how a script ended
abbrev pub answer_of : ℕ → ℕ → ScriptEnd
answer_of x y = if x == 0 then Exit y else (if x == 1 then Killed else NotStarted)

-- what is said, with one mark more
abbrev pub said_with : Mark → List HookMark → List HookMark
said_with m past =
    if is_open_kind m.kind then Opened m.z ∷ past
    else if is_closed_kind m.kind then Closed m.z ∷ past
    else if m.kind == START then Started (m.x == 1) m.z ∷ past
    else if m.kind == ENDED then Ended (answer_of m.x m.y) m.z ∷ past
    else past

abbrev pub said_in : List Mark → List HookMark
said_in [] = []
said_in (m ∷ past) = said_with m (said_in past)

-- a start is an up by 1 or a down by 2
abbrev pub AreUpOrDown : List Mark → Type 0
AreUpOrDown [] = ⊤
AreUpOrDown (m ∷ past) = (m.kind ≡ START → (m.x ≡ 1) ⊎ (m.x ≡ 2)) × AreUpOrDown past

-- The marks keep the law of site scripts. b jobs came before them.
pub record LogLaw (b : ℕ) (past : List Mark) : Type 0 where
  pub directions : AreUpOrDown past
  pub law : HookLaw b (reverse (said_in past))

-- Whether one more mark may stand behind what was said, by the law alone. A start that is neither up nor down may stand nowhere.
pub record MayStandMark (b : ℕ) (past : List HookMark) (m : Mark) : Type 0 where
  pub start : m.kind ≡ START → ((m.x ≡ 1) × MayStand b past (Started true m.z)) ⊎ ((m.x ≡ 2) × MayStand b past (Started false m.z))
  pub ended : m.kind ≡ ENDED → MayStand b past (Ended (answer_of m.x m.y) m.z)

-- While no script runs they agree with the protocol, which is open or not as said.
abbrev pub LogSettled : List Mark → Bool → Type 0
LogSettled past is_open = Settled (reverse (said_in past)) is_open

-- the marks of starts
abbrev pub marks_at : ℕ → List HookMark → List Mark
marks_at time [] = []
marks_at time (Opened n ∷ hooks) = marks_at time hooks
marks_at time (Closed n ∷ hooks) = marks_at time hooks
marks_at time (Started up n ∷ hooks) = started_mark time up n ∷ marks_at time hooks
marks_at time (Ended answer job ∷ hooks) = marks_at time hooks

-- the mark of the start that is due after these marks, if one is
abbrev pub due_marks : ℕ → List Mark → List Mark
due_marks time past = marks_at time (due_after (said_in past))

-- A job that runs goes on: nothing is started, and nothing ends.
pub record KeepsRunning (old new : List HookMark) : Type 0 where
  pub starts : ends_in old < starts_in old → starts_in new ≡ starts_in old
  pub ends : ends_in new ≡ ends_in old
  pub not_started : not_started_in new ≡ not_started_in old
