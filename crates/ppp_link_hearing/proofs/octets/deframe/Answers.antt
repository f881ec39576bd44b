use Rattle.std.proofs.Common.{take}
use Rattle.ppp_link_hearing.proofs.OctetFacts.{deframed_does, deframed_is, deframed_lives}
use Rattle.ppp_link_hearing.proofs.octets.deframe.Goals as goal

pub returns-clause-does : goal.returns-clause-does
returns-clause-does g c = deframed_does

pub returns-clause-taken : goal.returns-clause-taken
returns-clause-taken g c = deframed_is (take c.hear_span.result.used c.args.octets.now) c.hear_span.result.heard c.hear_span.new.deframer c.hear_span.new.counts c.requires.frames c.hear_span.ensures.taken

pub returns-clause-lives : goal.returns-clause-lives
returns-clause-lives g c = deframed_lives _ _ c.requires.lives
