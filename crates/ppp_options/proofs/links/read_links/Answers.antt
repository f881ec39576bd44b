use Rattle.std.proofs.Common.{ap}
use Rattle.std.specs.Option.{option_copied}
use Rattle.ppp_options.proofs.LinkLemmas.{sections_shared}
use Rattle.ppp_options.proofs.links.read_links.Goals as goal

pub returns-in-Some : goal.returns-in-Some
returns-in-Some c =
    rw (sections_shared c.args.items.now c.first_section.result.0.now c.in-Some.rest.now (rw (ap option_copied c.in-Some.is) at c.first_section.ensures.parts))
    c.read_each.ensures
