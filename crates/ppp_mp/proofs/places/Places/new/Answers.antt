use Rattle.std.proofs.Common.{◌%◌, ◌+◌, ◌∙◌, inl, inr}
use Rattle.std.proofs.lemmas.Bool.{cases_lt}
use Rattle.ppp_mp.specs.Header.{long_space}
use Rattle.ppp_mp.proofs.WindowLemmas.{pieces_at, pieces_past}
use Rattle.ppp_mp.proofs.places.Places.new.Goals as goal

pub returns-clause-pieces : goal.returns-clause-pieces
returns-clause-pieces c = λ i. elim (cases_lt i 128) [
  | inl below ↦ pieces_at 0 i c.in_ok-slots.slots.slots below ∙ c.in_ok-slots.ensures.none ((0 + i) % long_space)
  | inr out ↦ pieces_past 0 i c.in_ok-slots.slots.slots out
]
