-- The calls in which a judge of PAP hears a request (RFC 1334, section 2.2.1).
use Rattle.std.specs.Prelude.{ℕ, ◌≡◌, List}
use Rattle.ppp_proving.specs.Calls.{Against, AuthCall, hears, Answered}
use Rattle.ppp_proving.specs.Which.{IsFirst}
use Rattle.ppp_pap.specs.Packets.{request_body}

-- A request of this name and this password is heard, against these lines and our name. Its identifier may be any.
pub record Asks (call : AuthCall) (against : Against) (name password : List ℕ) : Type 0 where
  pub id : ℕ
  pub heard : call ≡ hears (record { code = 1; id = id; body = request_body name password }) against

-- some request is heard
pub record IsRequest (h : Answered) (earlier : List Answered) : Type 0 where
  pub against : Against
  pub name : List ℕ
  pub password : List ℕ
  pub asks : Asks h.call against name password

-- The first request of all is this one.
pub record FirstAsks (past : List Answered) (against : Against) (name password : List ℕ) : Type 0 where
  pub call : Answered
  pub earlier : List Answered
  pub first : IsFirst IsRequest past call earlier
  pub asks : Asks call.call against name password
