-- Looking back, and by the state.
use Rattle.std.proofs.Common.{◌≡◌, ℕ, Bool, true, false, cond, List, Some, None, refl, ap, ◌∙◌}
use Rattle.std.specs.Prelude.{◌==◌, is_some, option_map}
use Rattle.ppp_control.specs.Past.{Agreement}
use Rattle.ppp_ipcp.specs.declared.wish.IpWish.{IpWish}
use Rattle.ppp_ipcp.specs.Agreed.{agreed_by}
use Rattle.ppp_ipcp.proofs.SessionLemmas.{agreed_same}
use Rattle.ppp_ipcp.proofs.ipcp.Ipcp.agreed.Goals as goal

is_some_if : (b : Bool) (wish : IpWish) (local : List ℕ) (both : Agreement) → is_some (option_map (λ (x : Agreement). agreed_by wish local x.ours x.theirs) (cond b (Some both) None)) ≡ b
is_some_if true wish local both = refl
is_some_if false wish local both = refl

pub returns-clause-agreed : goal.returns-clause-agreed
returns-clause-agreed c wish past s = c.agreed_now.ensures ∙ agreed_same wish _ past s

pub returns-clause-opened : goal.returns-clause-opened
returns-clause-opened c = ap is_some c.agreed_now.ensures ∙ is_some_if (c.args.self.now.core.fsm.state == 9) c.args.self.now.wish _ _
