use Rattle.std.proofs.Common.{◌≡◌, None, drop}
use Rattle.ppp_chat_words.specs.Split.{octets_in}
use Rattle.ppp_chat_words.specs.Told.{told}
use Rattle.ppp_chat_words.specs.Walk.{result_from}
use Rattle.ppp_chat_words.proofs.options.chat_words.Given as goal

abbrev pub invariant-loop-place : goal.invariant-loop-place
invariant-loop-place l =
    (result_from l.walk l.place (octets_in (drop l.place l.words)) ≡ told l.dials (octets_in l.words)) × (l.walk.told.wrong ≡ None)
