use Rattle.std.proofs.Common.{◌≡◌, ◌++◌, ◌∙◌, Some, codes, ap, arith}
use Rattle.std.specs.Cmp.{unsigned_Decides}
use Rattle.std.proofs.lemmas.Slice.Eq.{strip_prefix_is}
use Rattle.ppp_trace.proofs.StepLemmas.{too_great}
use Rattle.ppp_trace.proofs.bare.answer.Goals as goal

pub returns-then-status-gt255 : goal.returns-then-status-gt255
returns-then-status-gt255 c =
    let text : c.args.text.now ≡ codes "exit " ++ c.in_ok-digits.digits.now = strip_prefix_is unsigned_Decides c.args.text.now (codes "exit ") (Some c.in_ok-digits.digits) c.in_ok-digits.ensures.cases in
    too_great c.args.text.now c.in_ok-status.status c.in_ok-status.ensures.0 (omega arith) (text ∙ ap (λ ds. codes "exit " ++ ds) c.in_ok-status.ensures.1)

pub returns : goal.returns
returns c =
    let text : c.args.text.now ≡ codes "exit " ++ c.in_ok-digits.digits.now = strip_prefix_is unsigned_Decides c.args.text.now (codes "exit ") (Some c.in_ok-digits.digits) c.in_ok-digits.ensures.cases in
    text ∙ ap (λ ds. codes "exit " ++ ds) c.in_ok-status.ensures.1
