-- How a side stands that has come to an outcome or not.
use Rattle.ppp_packet.specs.declared.auth_out.AuthOutcome.{AuthOutcome}
use Rattle.ppp_packet.specs.declared.auth_out.AuthOutcome.TheVariants.{Waiting, Passed, Refused, Unanswered}
use Rattle.ppp_auth.specs.declared.outcome.Side.{Side}
use Rattle.ppp_auth.specs.declared.outcome.Side.TheVariants.{Done as done, Going as going, Lost as lost}

abbrev pub side_of : AuthOutcome → Side
side_of Waiting = going
side_of (Passed name line) = done
side_of (Refused name) = lost
side_of (Unanswered times) = lost
