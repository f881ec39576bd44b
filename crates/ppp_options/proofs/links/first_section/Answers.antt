use Rattle.std.proofs.Common.{◌∙◌, sym}
use Rattle.ppp_options.proofs.LinkLemmas.{section_none, section_some}
use Rattle.ppp_options.proofs.links.first_section.Goals as goal

pub returns-in-Some-clause-parts : goal.returns-in-Some-clause-parts
returns-in-Some-clause-parts c = section_some c.args.items.now c.in-Some.place (sym c.first_link.ensures.place ∙ c.in-Some.is)

pub returns-in-None-clause-parts : goal.returns-in-None-clause-parts
returns-in-None-clause-parts c = section_none c.args.items.now (sym c.first_link.ensures.place ∙ c.in-None.is)
