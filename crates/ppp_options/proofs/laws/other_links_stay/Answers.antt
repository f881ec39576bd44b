use Rattle.ppp_options.proofs.LawLemmas.{last_link_stays, link_within_stays}
use Rattle.ppp_options.proofs.laws.other_links_stay.Goals as goal

pub returns : goal.returns
returns c = record { last = last_link_stays; within = link_within_stays }
