-- The calls in which one who proves himself by CHAP is asked, or told how it stands (RFC 1994, sections 4.1 and 4.2).
use Rattle.std.specs.Prelude.{ℕ, ◌≡◌, ◌≤◌, ◌⊎◌, Option, Some, None, List, length}
use Rattle.ppp_proving.specs.Calls.{Against, AuthCall, hears, Answered}
use Rattle.ppp_chap.specs.Packets.{valued_body}
use Rattle.ppp_chap.specs.Peer.{last_answered, secret_for}

-- A challenge of this identifier, value and name is heard, against these lines and the server's name.
pub record Challenges (call : AuthCall) (against : Against) (id : ℕ) (value challenger : List ℕ) : Type 0 where
  pub heard : call ≡ hears (record { code = 1; id = id; body = valued_body value challenger }) against
  pub fits : length challenger ≤ 255

-- A packet with this code is heard, and has the identifier of the last challenge that was answered. Its message may be any.
pub record Tells (code : ℕ) (h : Answered) (earlier : List Answered) : Type 0 where
  pub id : ℕ
  pub message : List ℕ
  pub against : Against
  pub heard : h.call ≡ hears (record { code = code; id = id; body = message }) against
  pub answers : last_answered earlier ≡ Some id

-- a Success that counts
abbrev pub Accepts : Answered → List Answered → Type 0
Accepts h earlier = Tells 3 h earlier

-- a challenge for which there is no secret
pub record HasNone (name : List ℕ) (password : Option (List ℕ)) (h : Answered) (earlier : List Answered) : Type 0 where
  pub against : Against
  pub id : ℕ
  pub value : List ℕ
  pub challenger : List ℕ
  pub challenges : Challenges h.call against id value challenger
  pub none : secret_for password name against challenger ≡ None

-- a Failure that counts, or no secret
abbrev pub Rejects : List ℕ → Option (List ℕ) → Answered → List Answered → Type 0
Rejects name password h earlier = Tells 4 h earlier ⊎ HasNone name password h earlier
