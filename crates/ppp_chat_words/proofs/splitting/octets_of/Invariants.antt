use Rattle.std.proofs.Common.{◌≡◌, map}
use Rattle.ppp_chat_words.specs.Split.{octets_in}
use Rattle.ppp_words.specs.PlacedWord.{PlacedWord}
use Rattle.ppp_chat_words.proofs.splitting.octets_of.Given as goal

abbrev pub invariant-loop-word : goal.invariant-loop-word
invariant-loop-word l = octets_in l.octets.items ≡ map (λ (word : PlacedWord). word.octets) l.yielded
