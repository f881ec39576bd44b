-- The table of phase and protocol, kind by kind.
use Rattle.std.proofs.Common.{refl, ◌≡◌, true}
use Rattle.std.proofs.lemmas.Bool.{false≢true}
use Rattle.ppp_link_rules.specs.Phase.{Kind, OfLcp, OfAuth, OfOtherAuth, OfTable, Unknown, LinkPhase, Establishing, Authenticating, Networking, Discarded, treatment, is_of_network}

pub network_alone : (phase : LinkPhase) (k : Kind) → is_of_network (treatment phase k) ≡ true → phase ≡ Networking
network_alone Establishing OfLcp is = absurd (false≢true is)
network_alone Establishing OfAuth is = absurd (false≢true is)
network_alone Establishing OfOtherAuth is = absurd (false≢true is)
network_alone Establishing OfTable is = absurd (false≢true is)
network_alone Establishing Unknown is = absurd (false≢true is)
network_alone Authenticating OfLcp is = absurd (false≢true is)
network_alone Authenticating OfAuth is = absurd (false≢true is)
network_alone Authenticating OfOtherAuth is = absurd (false≢true is)
network_alone Authenticating OfTable is = absurd (false≢true is)
network_alone Authenticating Unknown is = absurd (false≢true is)
network_alone Networking k is = refl

pub lcp_always : (phase : LinkPhase) → treatment phase OfLcp ≡ Rattle.ppp_link_rules.specs.Phase.ToLcp
lcp_always Establishing = refl
lcp_always Authenticating = refl
lcp_always Networking = refl

pub other_never : (phase : LinkPhase) → treatment phase OfOtherAuth ≡ Discarded
other_never Establishing = refl
other_never Authenticating = refl
other_never Networking = refl
