-- What is sent of our own accord, over a whole list of calls.
use Rattle.std.specs.Prelude.{ℕ, ◌≡◌, ◌+◌, ◌<◌, ◌≤◌, ◌⊎◌, true, Some, None, List, [], ◌∷◌, length, ⊤}
use Rattle.ppp_packet.specs.declared.packet.Packet.{Packet}
use Rattle.ppp_packet.specs.declared.auth_out.AuthOutcome.{AuthOutcome}
use Rattle.ppp_packet.specs.declared.auth_out.AuthOutcome.TheVariants.{Waiting}
use Rattle.ppp_proving.specs.Calls.{Answered, AuthCall, begins, ticks, is_own, sent_at}
use Rattle.ppp_proving.specs.Resending.{last_of}

-- Each moment is 3 seconds or more after the one before it. The last one comes first.
abbrev pub AreApart : List ℕ → Type 0
AreApart [] = ⊤
AreApart (now ∷ []) = ⊤
AreApart (now ∷ (last ∷ earlier)) = (last + 3000 ≤ now) × AreApart (last ∷ earlier)

-- Where a call hears nothing, it sends this packet or none.
abbrev pub IsAlways : Packet → List Answered → Type 0
IsAlways own [] = ⊤
IsAlways own (h ∷ past) = (is_own h.call ≡ true → (h.packet ≡ None) ⊎ (h.packet ≡ Some own)) × IsAlways own past

-- It is due: the authentication begins, and it wasn't sent yet; or time passes, 3 seconds or more after the last sending, there is no
-- outcome, and it was sent fewer than ten times.
abbrev pub IsDue : AuthOutcome → ℕ → AuthCall → List ℕ → Type 0
IsDue outcome now call sent =
    ((call ≡ begins) × (sent ≡ []))
    ⊎ ((call ≡ ticks) × (outcome ≡ Waiting) × (1 ≤ length sent) × (length sent < 10) × (last_of sent + 3000 ≤ now))

-- Each call at which it is due sends it.
abbrev pub AreSent : Packet → (List Answered → AuthOutcome) → List Answered → Type 0
AreSent own outcome [] = ⊤
AreSent own outcome (h ∷ past) = (IsDue (outcome past) h.now h.call (sent_at past) → h.packet ≡ Some own) × AreSent own outcome past

-- It is one packet, sent whenever it is due, ten times at most, each time 3 seconds or more after the one before.
pub record SendsOwn (own : Packet) (outcome : List Answered → AuthOutcome) (past : List Answered) : Type 0 where
  pub same : IsAlways own past
  pub due : AreSent own outcome past
  pub few : length (sent_at past) ≤ 10
  pub apart : AreApart (sent_at past)
