use Rattle.std.proofs.Common.{ap, arith, ◌∙◌}
use Rattle.std.specs.Prelude.{Ok}
use Rattle.std.specs.Option.{option_copied}
use Rattle.ppp_secrets.proofs.LineLemmas.{begins, one_more, none_left, secrets_rise}
use Rattle.ppp_secrets.proofs.reading.read_lines.Goals as goal

pub reading-init : goal.reading-init
reading-init c = begins _ c.args.text.now c.new-lines.ensures.items

pub reading-preserved-in_ok-push : goal.reading-preserved-in_ok-push
reading-preserved-in_ok-push c =
    one_more _ _ _ c.in-Some-checked_add.number _ c.in-Some.octets.now c.first_part.result.0.now (option_copied c.first_part.result.1) c.in-Some-2.line _
    c.reading.invariant (ap option_copied c.in-Some.is) c.first_part.ensures.parts (omega arith) (c.in_ok-line.ensures ∙ ap Ok c.in-Some-2.is) c.in_ok-push.ensures.items

pub returns-clause-read : goal.returns-clause-read
returns-clause-read c = none_left _ _ _ _ c.reading.invariant (ap option_copied c.in_default.is)

pub returns-clause-rising : goal.returns-clause-rising
returns-clause-rising c = secrets_rise c.args.text.now c.reading.lines.items (none_left _ _ _ _ c.reading.invariant (ap option_copied c.in_default.is))
