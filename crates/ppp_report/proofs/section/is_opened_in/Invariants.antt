use Rattle.std.proofs.Common.{◌≡◌, ◌++◌, ℕ, List, length, map}
use Rattle.ppp_mark.specs.declared.mark.Mark.{Mark}
use Rattle.ppp_mark.specs.Lines.{lines_of}
use Rattle.ppp_report.specs.Report.{AreFit, mark_word}
use Rattle.ppp_report.proofs.SectionLemmas.{Left}
use Rattle.ppp_report.proofs.section.is_opened_in.Given as goal

-- The marks that are left open the protocol under this number where all do.
abbrev pub invariant-seeking : goal.invariant-seeking
invariant-seeking l =
    (marks : List Mark) (others : List (List ℕ)) → AreFit l.fn.of marks → lines_of l.fn.text ≡ map mark_word marks ++ others → l.fn.count ≡ length marks
    → Left l.fn.of l.fn.opening marks others l.rest l.left

abbrev pub decreases-seeking : goal.decreases-seeking
decreases-seeking l = l.left
