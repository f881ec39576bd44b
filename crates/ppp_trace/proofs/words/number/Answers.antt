use Rattle.std.proofs.Common.{◌∙◌, Some, None, ap, sym}
use Rattle.ppp_base.specs.Numbers.{number_of}
use Rattle.ppp_base.specs.declared.numbers.LeadingZeros.TheVariants.{Refused}
use Rattle.ppp_trace.proofs.NumberLemmas.{read_cases}
use Rattle.ppp_trace.proofs.words.number.Goals as goal

pub returns-in-None : goal.returns-in-None
returns-in-None c =
    read_cases c.args.digits.now None (sym c.in-None.is ∙ c.read_number.ensures.value ∙ ap (λ most. number_of Refused 0 most c.args.digits.now) c.from-most.ensures)

pub returns-in-Some : goal.returns-in-Some
returns-in-Some c =
    read_cases c.args.digits.now (Some c.in-Some.number) (sym c.in-Some.is ∙ c.read_number.ensures.value ∙ ap (λ most. number_of Refused 0 most c.args.digits.now) c.from-most.ensures)
