use Rattle.std.proofs.Common.{◌≡◌, map, take}
use Rattle.std.specs.String.{string_bytes}
use Rattle.ppp_chat_words.specs.Split.{octets_in}
use Rattle.chat.proofs.asking.octets_of.Given as goal

abbrev pub invariant-loop-word : goal.invariant-loop-word
invariant-loop-word l = octets_in l.octets.items ≡ map string_bytes (take l.word-index l.words)
