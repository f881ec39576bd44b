use Rattle.ppp_mp.proofs.Possible.{goes_over_members}
use Rattle.ppp_mp.proofs.laws.same_members.Goals as goal

pub returns : goal.returns
returns c = goes_over_members
