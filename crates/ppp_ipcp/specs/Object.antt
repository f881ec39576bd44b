-- What a reader sees of IPCP as it stands.
use Rattle.std.specs.Prelude.{Option, option_map, List}
use Rattle.ppp_base.specs.declared.allow.Allow.{Allow}
use Rattle.ppp_packet.specs.OptionsOf.{Item}
use Rattle.ppp_secrets.specs.declared.secrets.SecretsPair.{SecretsPair}
use Rattle.ppp_control.specs.declared.judging.Verdict.{Verdict as Answered}
use Rattle.ppp_control.specs.Start.{agreement}
use Rattle.ppp_ipcp.specs.declared.addresses.Addresses.{Addresses}
use Rattle.ppp_ipcp.specs.declared.ipcp.Ipcp.{Ipcp}
use Rattle.ppp_ipcp.specs.Agreed.{agreed_by}
use Rattle.ppp_ipcp.specs.Verdict.{verdict_to}

-- the answer to a request
abbrev pub verdict_on : Ipcp → Allow → SecretsPair → List Item → Answered
verdict_on i allow secrets items = verdict_to items i.wish allow secrets i.core.naks

-- What has been agreed on is told in Opened alone.
abbrev pub agreed_in : Ipcp → Option Addresses
agreed_in i = option_map (λ both. agreed_by i.wish i.ours.local both.ours both.theirs) (agreement i.core)
