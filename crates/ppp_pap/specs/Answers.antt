-- The calls in which one who proves himself by PAP hears an answer to his request (RFC 1334, section 2.2.2).
use Rattle.std.specs.Prelude.{ℕ, ◌≡◌, ◌≤◌, List, ◌∷◌, length}
use Rattle.ppp_proving.specs.Calls.{Against, AuthCall, hears, Answered, sent_at}
use Rattle.ppp_proving.specs.Which.{GivesUp}

-- An answer with this code, to our identifier, is heard. Its message may be any.
pub record Hears (code : ℕ) (call : AuthCall) : Type 0 where
  pub message : List ℕ
  pub against : Against
  pub heard : call ≡ hears (record { code = code; id = 1; body = length message ∷ message }) against

-- An Ack is heard after our request was sent.
pub record Accepts (h : Answered) (earlier : List Answered) : Type 0 where
  pub sent : 1 ≤ length (sent_at earlier)
  pub hears_it : Hears 2 h.call

-- A Nak is heard after our request was sent.
pub record Rejects (h : Answered) (earlier : List Answered) : Type 0 where
  pub sent : 1 ≤ length (sent_at earlier)
  pub hears_it : Hears 3 h.call

-- It is given up.
abbrev pub GaveUp : Answered → List Answered → Type 0
GaveUp h earlier = GivesUp Accepts Rejects h earlier
