use Rattle.std.proofs.Common.{◌≡◌, ◌∙◌, ℕ, List, rules, sym, ap}
use Rattle.ppp_chat.specs.Texts.{kept_settings}
use Rattle.ppp_chat.specs.Walking.{so_far}
use Rattle.ppp_chat.proofs.Sending.{none_before, send_waits, send_sends}
use Rattle.ppp_chat.proofs.walk.Turn.send.Goals as goal

pub returns-then-not-is_empty-clause-takes : goal.returns-then-not-is_empty-clause-takes
returns-then-not-is_empty-clause-takes c steps now d left later =
    send_waits c.args.self.now c.args.octets.now left (kept_settings steps d) now later c.if-self.false (search rules) (search rules)

pub returns-clause-takes : goal.returns-clause-takes
returns-clause-takes c steps now d left later =
    let sent : c.append.new.self ≡ c.args.octets.now =
    c.append.ensures ∙ none_before c.args.self.now.sent c.as_slice.result.now (search rules) ∙ c.as_slice.ensures.octets in
    send_sends c.args.self.now c.args.octets.now left (kept_settings steps d) now later c.if-self.false (search rules) (search rules)
    ∙ ap (λ (octets : List ℕ). so_far (record { met = c.args.self.now.met; sent = octets }) left (kept_settings steps d) now later) (sym sent)
