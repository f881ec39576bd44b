use Rattle.ppp_link_rules.proofs.CountLemmas.{each_event}
use Rattle.ppp_link_rules.proofs.laws.counts_are_kept.Goals as goal

pub returns : goal.returns
returns c event s = each_event event s
