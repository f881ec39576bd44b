-- Looking back, and by the state.
use Rattle.std.proofs.Common.{◌≡◌, Bool, true, false, cond, Some, None, refl, ap, ◌∙◌}
use Rattle.std.specs.Prelude.{◌==◌, is_some, option_map}
use Rattle.ppp_control.specs.Past.{Agreement}
use Rattle.ppp_lcp.specs.Last.{agreed_by}
use Rattle.ppp_lcp.proofs.AgreedLemmas.{agreed_same}
use Rattle.ppp_lcp.proofs.RangeLemmas.{agreed_range}
use Rattle.ppp_lcp.proofs.lcp.Lcp.agreed.Goals as goal

is_some_if : (b : Bool) (both : Agreement) → is_some (option_map (λ x. agreed_by x.ours x.theirs) (cond b (Some both) None)) ≡ b
is_some_if true both = refl
is_some_if false both = refl

pub returns-clause-agreed : goal.returns-clause-agreed
returns-clause-agreed c wish words past s = c.agreed_now.ensures ∙ agreed_same wish words _ past s

pub returns-clause-opened : goal.returns-clause-opened
returns-clause-opened c = ap is_some c.agreed_now.ensures ∙ is_some_if (c.args.self.now.core.fsm.state == 9) _

pub returns-clause-range : goal.returns-clause-range
returns-clause-range c wish words past s = agreed_range wish words _ past _ (returns-clause-agreed c wish words past s) s
