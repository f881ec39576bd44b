-- Deadlines, among them the restart timers (RFC 1661, section 4.6), and which of them are due.
use Rattle.std.specs.Prelude.{ℕ, nat_le, Bool, false, Option, Some, None, List, [], ◌∷◌, filter}
use Rattle.ppp_timer.specs.declared.slot.Slot.{Slot}
use Rattle.ppp_timer.specs.declared.slot.Slot.TheVariants.{LcpRestart, AuthRestart, AuthEnd, Echo, Hold, IpcpRestart, Idle, Connect}

-- the moment that each slot holds
pub record Moments : Type 0 where
  pub lcp_restart : Option ℕ
  pub auth_restart : Option ℕ
  pub auth_end : Option ℕ
  pub echo : Option ℕ
  pub hold : Option ℕ
  pub ipcp_restart : Option ℕ
  pub idle : Option ℕ
  pub connect : Option ℕ

abbrev pub no_moments : Moments
no_moments = record {
  lcp_restart = None;
  auth_restart = None;
  auth_end = None;
  echo = None;
  hold = None;
  ipcp_restart = None;
  idle = None;
  connect = None;
}

-- the moment of this slot
abbrev pub moment_of : Moments → Slot → Option ℕ
moment_of held LcpRestart = held.lcp_restart
moment_of held AuthRestart = held.auth_restart
moment_of held AuthEnd = held.auth_end
moment_of held Echo = held.echo
moment_of held Hold = held.hold
moment_of held IpcpRestart = held.ipcp_restart
moment_of held Idle = held.idle
moment_of held Connect = held.connect

-- the same moments, but for this slot
abbrev pub with_moment : Moments → Slot → Option ℕ → Moments
with_moment held LcpRestart moment = record held { lcp_restart = moment }
with_moment held AuthRestart moment = record held { auth_restart = moment }
with_moment held AuthEnd moment = record held { auth_end = moment }
with_moment held Echo moment = record held { echo = moment }
with_moment held Hold moment = record held { hold = moment }
with_moment held IpcpRestart moment = record held { ipcp_restart = moment }
with_moment held Idle moment = record held { idle = moment }
with_moment held Connect moment = record held { connect = moment }

-- a moment has come
abbrev pub has_come : ℕ → Option ℕ → Bool
has_come now None = false
has_come now (Some moment) = nat_le moment now

-- the slots in the order in which those that are due together are treated
abbrev pub slots : List Slot
slots = LcpRestart ∷ AuthRestart ∷ AuthEnd ∷ Echo ∷ Hold ∷ IpcpRestart ∷ Idle ∷ Connect ∷ []

-- the slots that are due, in this order
abbrev pub due_slots : Moments → ℕ → List Slot
due_slots held now = filter (λ slot. has_come now (moment_of held slot)) slots
