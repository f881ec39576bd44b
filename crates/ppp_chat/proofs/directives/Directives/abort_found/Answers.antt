use Rattle.std.proofs.Common.{arith, sym, ◌∙◌, ap, ◌+◌, ℕ, option_map, Option}
use Rattle.ppp_chat.specs.Ending.{is_found}
use Rattle.ppp_chat.specs.Texts.{abort_at}
use Rattle.ppp_chat.proofs.Places.{position-map}
use Rattle.ppp_chat.proofs.directives.Directives.abort_found.Goals as goal

pub returns-in_err-place : goal.returns-in_err-place
returns-in_err-place c =
    let e = position-map (is_found c.args.octets.now) (abort_at c.args.steps.now) c.args.self.now.aborts.items in
    grind (arith, e, c.first_found.ensures.place, c.from_residual.ensures)

pub returns : goal.returns
returns c =
    let e = position-map (is_found c.args.octets.now) (abort_at c.args.steps.now) c.args.self.now.aborts.items in
    ap (λ (o : Option ℕ). option_map (λ (place : ℕ). place + 1) o) (sym c.in_ok-place.was ∙ c.first_found.ensures.place ∙ sym e)
