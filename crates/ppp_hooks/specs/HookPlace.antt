-- Whether one more mark may stand behind a past by the law of site scripts alone, read back from the past's newest mark (pppd(8), "Scripts").
-- `MayFollow` asks more of openings and closings: here any number may open at any place, and any closing closes whatever is open.
use Rattle.std.specs.Prelude.{ℕ, ◌+◌, ◌<◌, ◌≡◌, ◌==◌, ◌||◌, Bool, true, false, Some, List, [], ◌∷◌, ⊤}
use Rattle.ppp_hooks.specs.HookMark.{HookMark, Opened, Closed, Started, Ended}
use Rattle.ppp_hooks.specs.HookPast.{starts_in, ends_in, last_in, IsDown}

-- the openings since the last closing, the newest first
abbrev pub openings_in : List HookMark → List ℕ
openings_in [] = []
openings_in (Opened n ∷ past) = n ∷ openings_in past
openings_in (Closed n ∷ past) = []
openings_in (Started up n ∷ past) = openings_in past
openings_in (Ended answer job ∷ past) = openings_in past

-- whether this number is among these
abbrev pub is_among : ℕ → List ℕ → Bool
is_among n [] = false
is_among n (m ∷ ms) = m == n || is_among n ms

-- Started: no script runs. An up comes after a down or as the first, for an opening that is open.
-- A down comes after an up, for that up's opening, which is not open.
-- Ended: a script runs, and the mark names its job, of which b came before this past.
abbrev pub MayStand : ℕ → List HookMark → HookMark → Type 0
MayStand b past (Opened n) = ⊤
MayStand b past (Closed n) = ⊤
MayStand b past (Started true n) = (ends_in past ≡ starts_in past) × IsDown (last_in past) × (is_among n (openings_in past) ≡ true)
MayStand b past (Started false n) = (ends_in past ≡ starts_in past) × (last_in past ≡ Some (true, n)) × (is_among n (openings_in past) ≡ false)
MayStand b past (Ended answer job) = (ends_in past < starts_in past) × (job ≡ b + ends_in past + 1)

-- each of these is a start
abbrev pub AreStarts : List HookMark → Type 0
AreStarts [] = ⊤
AreStarts (Opened n ∷ marks) = ⊥
AreStarts (Closed n ∷ marks) = ⊥
AreStarts (Started up n ∷ marks) = AreStarts marks
AreStarts (Ended answer job ∷ marks) = ⊥
