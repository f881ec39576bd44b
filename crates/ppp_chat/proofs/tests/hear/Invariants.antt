-- The script stays begun.
use Rattle.ppp_chat.specs.ChatState.{IsBegun}
use Rattle.ppp_chat.proofs.tests.hear.Given as goal

abbrev pub invariant-calls : goal.invariant-calls
invariant-calls g l = IsBegun l.chat
