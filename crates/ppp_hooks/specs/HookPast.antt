-- What a list of marks says, read from its newest mark back: here the newest mark comes first, so that one more mark is one more step.
use Rattle.std.specs.Prelude.{ℕ, ◌+◌, ◌<◌, ◌≡◌, ◌≢◌, Bool, true, false, nat_lt, Option, None, Some, List, [], ◌∷◌, ⊤, if◌then◌else◌}
use Rattle.ppp_outside.specs.declared.spawner.ScriptEnd.{ScriptEnd}
use Rattle.ppp_outside.specs.declared.spawner.ScriptEnd.TheVariants.{Exit, Killed, NotStarted}
use Rattle.ppp_hooks.specs.HookMark.{HookMark, Opened, Closed, Started, Ended}

-- how many scripts were started
abbrev pub starts_in : List HookMark → ℕ
starts_in [] = 0
starts_in (Opened n ∷ past) = starts_in past
starts_in (Closed n ∷ past) = starts_in past
starts_in (Started up n ∷ past) = starts_in past + 1
starts_in (Ended answer job ∷ past) = starts_in past

-- how many scripts have ended
abbrev pub ends_in : List HookMark → ℕ
ends_in [] = 0
ends_in (Opened n ∷ past) = ends_in past
ends_in (Closed n ∷ past) = ends_in past
ends_in (Started up n ∷ past) = ends_in past
ends_in (Ended answer job ∷ past) = ends_in past + 1

abbrev pub not_started_by : ScriptEnd → ℕ
not_started_by (Exit status) = 0
not_started_by Killed = 0
not_started_by NotStarted = 1

-- how many of the ended scripts were not started
abbrev pub not_started_in : List HookMark → ℕ
not_started_in [] = 0
not_started_in (Opened n ∷ past) = not_started_in past
not_started_in (Closed n ∷ past) = not_started_in past
not_started_in (Started up n ∷ past) = not_started_in past
not_started_in (Ended answer job ∷ past) = not_started_in past + not_started_by answer

-- the opening that is open
abbrev pub open_in : List HookMark → Option ℕ
open_in [] = None
open_in (Opened n ∷ past) = Some n
open_in (Closed n ∷ past) = None
open_in (Started up n ∷ past) = open_in past
open_in (Ended answer job ∷ past) = open_in past

-- the number of the last opening, 0 where there was none
abbrev pub greatest_in : List HookMark → ℕ
greatest_in [] = 0
greatest_in (Opened n ∷ past) = n
greatest_in (Closed n ∷ past) = greatest_in past
greatest_in (Started up n ∷ past) = greatest_in past
greatest_in (Ended answer job ∷ past) = greatest_in past

-- the last start, as its direction and its opening
abbrev pub last_in : List HookMark → Option (Bool × ℕ)
last_in [] = None
last_in (Opened n ∷ past) = last_in past
last_in (Closed n ∷ past) = last_in past
last_in (Started up n ∷ past) = Some (up, n)
last_in (Ended answer job ∷ past) = last_in past

-- the job that runs
abbrev pub running_in : List HookMark → Option ℕ
running_in past = if nat_lt (ends_in past) (starts_in past) then Some (starts_in past) else None

-- the last start was a down, or there was none
abbrev pub IsDown : Option (Bool × ℕ) → Type 0
IsDown None = ⊤
IsDown (Some start) = start.0 ≡ false

-- Whether a mark may come after this past. Opened: the protocol is closed, and the number is above every former one.
-- Closed: it names the opening that is open.
-- Started: as many scripts have ended as were started. An up comes after a down or as the first, for the opening that is open.
-- A down comes after an up, for that up's opening, which is not open.
-- Ended: a script runs, and the mark names its job.
abbrev pub MayFollow : List HookMark → HookMark → Type 0
MayFollow past (Opened n) = (open_in past ≡ None) × (greatest_in past < n)
MayFollow past (Closed n) = open_in past ≡ Some n
MayFollow past (Started true n) = (ends_in past ≡ starts_in past) × IsDown (last_in past) × (open_in past ≡ Some n)
MayFollow past (Started false n) = (ends_in past ≡ starts_in past) × (last_in past ≡ Some (true, n)) × (open_in past ≢ Some n)
MayFollow past (Ended answer job) = (ends_in past < starts_in past) × (job ≡ ends_in past + 1)

-- each mark may come after those before it
abbrev pub IsLawful : List HookMark → Type 0
IsLawful [] = ⊤
IsLawful (mark ∷ past) = MayFollow past mark × IsLawful past

-- what the last start has to be while no script runs: an up of the opening that is open, or a down or none where none is
abbrev pub Matches : Option (Bool × ℕ) → Option ℕ → Type 0
Matches last None = IsDown last
Matches last (Some n) = last ≡ Some (true, n)

abbrev pub IsSettled : List HookMark → Type 0
IsSettled past = ends_in past ≡ starts_in past → Matches (last_in past) (open_in past)
