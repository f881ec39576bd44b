use Rattle.std.proofs.Common.{◌≡◌}
use Rattle.std.specs.List.{slice_split}
use Rattle.std.specs.Option.{option_copied}
use Rattle.ppp_options.proofs.LinkLemmas.{amount, before}
use Rattle.ppp_option_words.specs.Picks.{is_link}
use Rattle.ppp_options.specs.Scopes.{links_read, parts_behind, shared_with}
use Rattle.ppp_options.proofs.links.read_each.Given as goal

abbrev pub invariant-reading : goal.invariant-reading
invariant-reading l =
    before l.links.items (links_read (shared_with l.shared (parts_behind (option_copied l.left)))) ≡ links_read (shared_with l.shared (slice_split is_link l.fn.items))

abbrev pub decreases-reading : goal.decreases-reading
decreases-reading l = amount (option_copied l.left)
