use Rattle.std.proofs.Common.{Some, codes}
use Rattle.std.specs.Cmp.{unsigned_Decides}
use Rattle.std.proofs.lemmas.Slice.Eq.{strip_prefix_is}
use Rattle.ppp_trace.proofs.SignalLemmas.{signal_cases}
use Rattle.ppp_trace.proofs.link_step.signal.Goals as goal

pub returns : goal.returns
returns c =
    signal_cases c.args.text.now c.in_ok-word.word.now c.signal_named.result
    (strip_prefix_is unsigned_Decides c.args.text.now (codes "word ") (Some c.in_ok-word.word) c.in_ok-word.ensures.cases) c.signal_named.ensures
