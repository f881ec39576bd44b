use Rattle.std.proofs.Common.{◌≡◌, Some, ap, sym, ◌∙◌, arith}
use Rattle.ppp_secrets.specs.AddressWords.{address_word_of}
use Rattle.ppp_secrets.proofs.LineLemmas.{more_words}
use Rattle.ppp_secrets.proofs.line.addresses.Goals as goal

pub loop-word-preserved : goal.loop-word-preserved
loop-word-preserved c =
    let read : address_word_of c.word-item.result.octets ≡ Some c.in-Some.address = sym (c.read_word.ensures ∙ ap address_word_of c.octets.ensures) ∙ c.in-Some.is in
    let more = more_words c.args.words.now c.loop-word.word-index c.word-item.result c.in-Some.address c.loop-word.addresses.items c.push.new.self.items
    (omega arith) c.word-item.is read c.loop-word.invariant.each c.loop-word.invariant.kept c.in_ok-push.ensures.items in
    record { each = more.0; kept = more.1 }
