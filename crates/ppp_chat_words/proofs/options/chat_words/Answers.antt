use Rattle.std.proofs.Common.{◌∙◌, sym, ap, ◌+◌, drop, ◌∷◌, ℕ, List}
use Rattle.ppp_chat_words.proofs.WordLemmas.{octets_at}
use Rattle.ppp_chat_words.specs.Split.{octets_in}
use Rattle.ppp_chat_words.specs.Walk.{result_from}
use Rattle.ppp_chat_words.proofs.options.chat_words.Goals as goal

pub returns-then-not-take : goal.returns-then-not-take
returns-then-not-take c =
    let rest : List (List ℕ) = octets_in (drop (c.loop-place.place + 1) c.args.words.now) in
    let word = octets_at c.loop-place.place c.args.words.now c.index-words-place.result c.loop-place-test.true c.index-words-place.is in
    let words = ap (λ (octets : List ℕ). octets ∷ rest) c.as_slice.ensures.value ∙ sym word in
    sym (c.if-not-take.ensures.ends rest) ∙ (ap (λ (left : List (List ℕ)). result_from c.loop-place.walk c.loop-place.place left) words ∙ c.loop-place.invariant.0)
