-- The answers of a line in memory, which keeps for each the place and the count of its octets.
use Rattle.std.specs.Prelude.{ℕ, List, drop, map}
use Rattle.ppp_outside.specs.Line.{answer_with}
use Rattle.ppp_outside.specs.declared.line_in.LineAnswer.{LineAnswer}
use Rattle.ppp_memory.specs.declared.kept_answer.KeptAnswer.{KeptAnswer}

abbrev pub answer_at : List ℕ → KeptAnswer → LineAnswer
answer_at octets kept = answer_with kept.answer (drop kept.at octets)

abbrev pub answers_at : List ℕ → List KeptAnswer → List LineAnswer
answers_at octets kept = map (answer_at octets) kept
