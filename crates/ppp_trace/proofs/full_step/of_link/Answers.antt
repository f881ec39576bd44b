use Rattle.std.proofs.Common.{refl, ap, sym, ◌∙◌, arith, decimal, ◌++◌, ◌∷◌}
use Rattle.ppp_trace.specs.FullSteps.{OfLink}
use Rattle.ppp_trace.proofs.FullLemmas.{any_link}
use Rattle.ppp_trace.proofs.full_step.of_link.Goals as goal

pub returns : goal.returns
returns c =
    let number = c.in_ok-number.number in
    let of : OfLink c.args.links c.in_ok-link.link c.args.line.now c.in_ok-number.rest.now = record {
      from_one = omega (arith, c.in_ok-link.ensures.value, (c.in_ok-link.ensures.valid.0 refl).0);
      there = omega (arith, c.in_ok-link.ensures.value, c.if-from-number.false, c.from.ensures);
      text = c.in_ok-number.ensures.sound.1 ∙ ap (λ n. decimal n ++ 32 ∷ c.in_ok-number.rest.now) (sym c.in_ok-link.ensures.value);
    } in
    any_link c.args.links c.args.line.now c.link_step.result (c.link_step.ensures c.args.links c.args.line.now c.requires of)
