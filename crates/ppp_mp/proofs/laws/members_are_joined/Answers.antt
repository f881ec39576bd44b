use Rattle.ppp_mp.proofs.MemberCalls.{joined_told}
use Rattle.ppp_mp.proofs.laws.members_are_joined.Goals as goal

pub returns : goal.returns
returns c = joined_told
