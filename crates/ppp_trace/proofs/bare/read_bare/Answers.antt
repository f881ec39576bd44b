use Rattle.std.proofs.Common.{rules, ◌≡◌, codes, sym, subst}
use Rattle.std.proofs.lemmas.Slice.Eq.{bytes_eq-Decides}
use Rattle.ppp_trace.specs.Reads.{Tells}
use Rattle.ppp_trace.proofs.TraceLemmas.{header_first}
use Rattle.ppp_trace.proofs.bare.read_bare.Goals as goal

pub returns-then-ne : goal.returns-then-ne
returns-then-ne c =
    subst (Tells c.args.octets.now) (sym c.bad-then-ne.ensures)
    (header_first c.args.octets.now c.first_line.result.0.now c.first_line.result.1.now c.first_line.ensures.lines (λ e. let same : c.first_line.result.0.now ≡ codes "bare" = e in search (rules, bytes_eq-Decides)))
