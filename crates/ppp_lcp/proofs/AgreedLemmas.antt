-- What is told as agreed is what both ends acknowledged last.
use Rattle.std.proofs.Common.{◌≡◌, ℕ, Option, List, ap}
use Rattle.std.specs.Prelude.{option_map}
use Rattle.ppp_control.specs.Past.{Agreement}
use Rattle.ppp_control.proofs.AgreementLemmas.{agreement_so}
use Rattle.ppp_lcp.specs.declared.lcp.Lcp.{Lcp}
use Rattle.ppp_lcp.specs.declared.wish.LcpWish.{LcpWish}
use Rattle.ppp_lcp.specs.Last.{agreed_by}
use Rattle.ppp_lcp.specs.Object.{agreed_in}
use Rattle.ppp_lcp.specs.Session.{LcpCall, rules, agreed_after, StandsFor}

pub agreed_same : (wish : LcpWish) (words : ℕ) (l : Lcp) (past : List LcpCall) → StandsFor wish words l past → agreed_in l ≡ agreed_after wish past
agreed_same wish words l past s = ap (λ (both : Option Agreement). option_map (λ b. agreed_by b.ours b.theirs) both) (agreement_so (rules wish words) l.core past s.negotiates)
