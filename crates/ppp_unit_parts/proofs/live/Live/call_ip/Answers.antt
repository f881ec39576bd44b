use Rattle.std.proofs.Common.{◌∙◌, ap}
use Rattle.ppp_ipcp.specs.declared.ipcp.Ipcp.{Ipcp}
use Rattle.ppp_unit_parts.specs.declared.live.Live.{Live}
use Rattle.ppp_unit_parts.specs.Calls.{around_of}
use Rattle.ppp_unit_parts.proofs.SessionFacts.{told, left, goes_on}
use Rattle.ppp_unit_parts.proofs.live.Live.call_ip.Goals as goal

pub returns-clause-new : goal.returns-clause-new
returns-clause-new c =
    c.ask_ip.ensures.rest
    ∙ ap (λ (i : Ipcp). record c.args.self.now { ipcp = i }) (left (around_of c.args.secrets.now c.args.self.now) c.args.now c.args.call.now c.args.self.now _ _ c.requires.session c.ask_ip.ensures.calls)

pub returns-clause-told : goal.returns-clause-told
returns-clause-told c = told (around_of c.args.secrets.now c.args.self.now) c.args.now c.args.call.now c.args.self.now _ _ c.requires.session c.ask_ip.ensures.calls

pub returns-clause-session : goal.returns-clause-session
returns-clause-session c =
    goes_on (around_of c.args.secrets.now c.args.self.now) c.args.now c.args.call.now c.args.self.now _ _ c.requires.session c.ask_ip.ensures.calls
    (ap (λ (l : Live). l.wish) c.ask_ip.ensures.rest)
