-- The answer to a peer's Configure-Request (RFC 1661, sections 5.2 to 5.4; RFC 1332, section 3.3).
use Rattle.std.specs.Prelude.{ℕ, nat_le, List}
use Rattle.ppp_base.specs.declared.allow.Allow.{Allow}
use Rattle.ppp_packet.specs.OptionsOf.{Item}
use Rattle.ppp_secrets.specs.declared.secrets.SecretsPair.{SecretsPair}
use Rattle.ppp_control.specs.declared.judging.Verdict.{Verdict as Answered}
use Rattle.ppp_control.specs.Answers.{answer_to}
use Rattle.ppp_control.specs.Verdict.{verdict_of}
use Rattle.ppp_ipcp.specs.declared.wish.IpWish.{IpWish}
use Rattle.ppp_ipcp.specs.Address.{judged_where}

-- `naks` counts the Naks since the last Ack that we sent
abbrev pub verdict_to : List Item → IpWish → Allow → SecretsPair → ℕ → Answered
verdict_to request wish allow secrets naks = verdict_of (answer_to (judged_where wish allow secrets) (nat_le wish.max_failure naks) request)
