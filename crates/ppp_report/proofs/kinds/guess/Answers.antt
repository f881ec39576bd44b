use Rattle.ppp_report.proofs.KindLemmas.{guess_is}
use Rattle.ppp_report.proofs.kinds.guess.Goals as goal

pub returns : goal.returns
returns c = λ k some is. rw (c.from.ensures, c.from-2.ensures, c.from-3.ensures) (guess_is k c.args.name.now some is)
