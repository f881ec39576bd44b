-- The calls in which a judge of CHAP learns something (RFC 1994, section 4.1).
use Rattle.std.specs.Prelude.{ℕ, ◌≡◌, ◌≤◌, ◌⊎◌, ◌∷◌, List, length}
use Rattle.ppp_proving.specs.Calls.{Against, AuthCall, hears, Answered, sent_at}
use Rattle.ppp_proving.specs.Which.{IsFirst, NoneOf, Tires}
use Rattle.ppp_chap.specs.Packets.{response_packet}

-- A response to our challenge, whose identifier is 1, is heard, of this name and this value, against these lines and our name.
pub record Responds (call : AuthCall) (against : Against) (name value : List ℕ) : Type 0 where
  pub heard : call ≡ hears (response_packet 1 value name) against
  pub fits : length name ≤ 255

-- some response is heard after our challenge was sent
pub record IsResponse (h : Answered) (earlier : List Answered) : Type 0 where
  pub sent : 1 ≤ length (sent_at earlier)
  pub against : Against
  pub name : List ℕ
  pub value : List ℕ
  pub responds : Responds h.call against name value

-- It is known: a response is heard, or 3 seconds have passed since the tenth sending.
abbrev pub IsKnown : Answered → List Answered → Type 0
IsKnown h earlier = IsResponse h earlier ⊎ Tires h earlier

-- What is known first is this response.
pub record FirstResponds (past : List Answered) (against : Against) (name value : List ℕ) : Type 0 where
  pub call : Answered
  pub earlier : List Answered
  pub first : IsFirst IsKnown past call earlier
  pub responds : Responds call.call against name value

-- What is known first is that none came.
pub record FirstTires (past : List Answered) : Type 0 where
  pub call : Answered
  pub earlier : List Answered
  pub first : IsFirst IsKnown past call earlier
  pub tires : Tires call earlier

-- It is no response, or one that comes before our challenge was sent or after it was given up.
abbrev pub GoesUnanswered : Answered → List Answered → Type 0
GoesUnanswered h past =
    ((a : Against) (name value : List ℕ) → Responds h.call a name value → ⊥) ⊎ (NoneOf IsKnown (h ∷ past) ⊎ FirstTires (h ∷ past))
