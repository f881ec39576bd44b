use Rattle.std.proofs.Common.{length}
use Rattle.ppp_chat_words.specs.Split.{octets_in}
use Rattle.ppp_options.proofs.ReadsLemmas.{Reached}
use Rattle.ppp_options.specs.Steps.{read_from}
use Rattle.ppp_options.proofs.placing.+place_words.Given as goal

abbrev pub decreases-place_words : goal.decreases-place_words
decreases-place_words g l = l.deeper

abbrev pub invariant-placing : goal.invariant-placing
invariant-placing g l =
    Reached (g.F.Files.state l.initial.files) (g.F.Files.state l.files)
    (λ all. read_from all l.deeper l.initial.given (octets_in l.initial.left)) (λ all. read_from all l.deeper l.given (octets_in l.left))

abbrev pub decreases-placing : goal.decreases-placing
decreases-placing g l = length l.left
