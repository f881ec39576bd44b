-- The answer to a peer's Configure-Request (RFC 1661, sections 5.2 to 5.4).
use Rattle.std.specs.Prelude.{ℕ, nat_le, Bool, List}
use Rattle.ppp_packet.specs.OptionsOf.{Item}
use Rattle.ppp_control.specs.declared.judging.Verdict.{Verdict as Answered}
use Rattle.ppp_control.specs.Answers.{answer_to}
use Rattle.ppp_control.specs.Verdict.{verdict_of}
use Rattle.ppp_lcp.specs.declared.wish.LcpWish.{LcpWish}
use Rattle.ppp_lcp.specs.Table.{judged_where}

-- where multilink may have been rejected
abbrev pub verdict_where : List Item → LcpWish → Bool → ℕ → ℕ → ℕ → Answered
verdict_where request wish multilink ours word naks = verdict_of (answer_to (judged_where wish multilink ours word) (nat_le wish.max_failure naks) request)

abbrev pub verdict_to : List Item → LcpWish → ℕ → ℕ → ℕ → Answered
verdict_to request wish ours word naks = verdict_where request wish wish.multilink ours word naks
