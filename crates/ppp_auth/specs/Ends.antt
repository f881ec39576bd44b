-- How a phase ends, said of the whole list of its calls at once: by how the two sides stand after all of them, or after some.
use Rattle.std.specs.Prelude.{ℕ, ◌≡◌, ◌≢◌, ◌+◌, ◌≤◌, ◌⊎◌, Bool, true, Option, Some, None, is_some, List, ◌∷◌, ◌++◌}
use Rattle.ppp_base.specs.declared.allow.Allow.{Allow}
use Rattle.ppp_base.specs.declared.allow.Allow.TheVariants as allow
use Rattle.ppp_packet.specs.declared.agreed.Method.{Method}
use Rattle.ppp_packet.specs.declared.agreed.Method.TheVariants.{Pap, Chap}
use Rattle.ppp_packet.specs.declared.auth_out.AuthOutcome.TheVariants as judged
use Rattle.ppp_auth.specs.declared.outcome.AuthNow.{AuthNow}
use Rattle.ppp_auth.specs.declared.outcome.AuthNow.TheVariants.{Passed}
use Rattle.ppp_auth.specs.declared.outcome.Side.TheVariants.{Done as done, Going as going, Lost as lost}
use Rattle.ppp_auth.specs.Setting.{Setting, PhaseAt, waits, begun_at}
use Rattle.ppp_auth.specs.Judged.{judge_outcome, judged_in, peer_side}
use Rattle.ppp_auth.specs.Outcome.{outcome_in}
use Rattle.ppp_auth.specs.Proved.{our_side}

-- The peer has passed under this name, and may have an address by this line of the secrets of its method; or it needn't prove itself.
pub record HasPassed (method : Method) (s : Setting) (past : List PhaseAt) (peer : Option (List ℕ)) (allowed : Allow) (by_line : ℕ → Allow) : Type 0 where
  pub name : List ℕ
  pub line : ℕ
  pub passed : judge_outcome method s (judged_in method s past) ≡ judged.Passed name line
  pub named : peer ≡ Some name
  pub lined : allowed ≡ by_line line

abbrev pub IsPeer : Option Method → Setting → List PhaseAt → Option (List ℕ) → Allow → Type 0
IsPeer None s past peer allowed = (peer ≡ None) × (allowed ≡ allow.Any)
IsPeer (Some Pap) s past peer allowed = HasPassed Pap s past peer allowed (λ line. allow.Pap line)
IsPeer (Some Chap) s past peer allowed = HasPassed Chap s past peer allowed (λ line. allow.Chap line)

-- It has begun, and both sides are done.
pub record BothDone (s : Setting) (past : List PhaseAt) (peer : Option (List ℕ)) (allowed : Allow) : Type 0 where
  pub begun : is_some (begun_at past) ≡ true
  pub peers : peer_side s.peer_proves s past ≡ done
  pub ours : our_side s.we_prove s past ≡ done
  pub is_peer : IsPeer s.peer_proves s past peer allowed

-- No side is lost, and one still goes on.
pub record GoesOn (s : Setting) (past : List PhaseAt) : Type 0 where
  pub peers : peer_side s.peer_proves s past ≢ lost
  pub ours : our_side s.we_prove s past ≢ lost
  pub one : (peer_side s.peer_proves s past ≡ going) ⊎ (our_side s.we_prove s past ≡ going)

-- At some call the peer's side was lost, and before it ours was not.
pub record PeerFirst (s : Setting) (past : List PhaseAt) : Type 0 where
  pub later : List PhaseAt
  pub call : PhaseAt
  pub earlier : List PhaseAt
  pub split : past ≡ later ++ call ∷ earlier
  pub peers : peer_side s.peer_proves s (call ∷ earlier) ≡ lost
  pub ours : our_side s.we_prove s earlier ≢ lost

-- At some call our side was lost, and the peer's was not.
pub record WeFirst (s : Setting) (past : List PhaseAt) : Type 0 where
  pub later : List PhaseAt
  pub call : PhaseAt
  pub earlier : List PhaseAt
  pub split : past ≡ later ++ call ∷ earlier
  pub ours : our_side s.we_prove s (call ∷ earlier) ≡ lost
  pub peers : peer_side s.peer_proves s (call ∷ earlier) ≢ lost

-- At some call time passed, 60 seconds or more after the beginning, and a side still waited before it.
pub record TooLate (is_waiting : List PhaseAt → Bool) (past : List PhaseAt) : Type 0 where
  pub later : List PhaseAt
  pub call : PhaseAt
  pub earlier : List PhaseAt
  pub began : ℕ
  pub split : past ≡ later ++ call ∷ earlier
  pub ticks_now : call.call ≡ waits
  pub since : begun_at earlier ≡ Some began
  pub long : began + 60000 ≤ call.now
  pub waiting : is_waiting earlier ≡ true

-- Where the peer proves itself like this, and we like that, a phase has come to this outcome after some calls.
pub record SomeEnd (peer we : Option Method) (outcome : AuthNow) : Type 0 where
  pub setting : Setting
  pub past : List PhaseAt
  pub peers : setting.peer_proves ≡ peer
  pub ours : setting.we_prove ≡ we
  pub ends : outcome_in setting past ≡ outcome

pub record SomePass (peer we : Option Method) : Type 0 where
  pub name : Option (List ℕ)
  pub allowed : Allow
  pub end : SomeEnd peer we (Passed name allowed)
