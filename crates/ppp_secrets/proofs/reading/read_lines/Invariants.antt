use Rattle.std.proofs.Common.{◌≡◌}
use Rattle.std.specs.Option.{option_copied}
use Rattle.ppp_secrets.specs.Reading.{secrets_of}
use Rattle.ppp_secrets.proofs.LineLemmas.{with_lines, left_over, amount}
use Rattle.ppp_secrets.proofs.reading.read_lines.Given as goal

-- The lines so far and those that are left are all of them.
abbrev pub invariant-reading : goal.invariant-reading
invariant-reading l = with_lines l.lines.items (left_over l.count (option_copied l.rest)) ≡ secrets_of l.fn.text

abbrev pub decreases-reading : goal.decreases-reading
decreases-reading l = amount (option_copied l.rest)
