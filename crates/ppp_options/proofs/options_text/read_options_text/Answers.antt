use Rattle.ppp_chat_words.specs.Split.{split_front}
use Rattle.ppp_words.specs.declared.backslash.Backslash.TheVariants.{Dropped}
use Rattle.ppp_options.proofs.PlaceLemmas.{err_of}
use Rattle.ppp_options.proofs.TextLemmas.{text_fails, text_taken}
use Rattle.ppp_options.proofs.options_text.read_options_text.Goals as goal

pub returns-in_err-take_text : goal.returns-in_err-take_text
returns-in_err-take_text c =
    rw (err_of _ c.in_err-take_text.field-0.0 c.from_residual.ensures.1)
    (text_fails (λ (done : Unit {0}). c.take_text.new.given) (λ config. config) (split_front Dropped c.args.text.now) c.new-given.result c.in_err-take_text.field-0.0
    c.new-given.ensures c.in_err-take_text.ensures)

pub returns : goal.returns
returns c =
    rw (text_taken (split_front Dropped c.args.text.now) c.new-given.result c.take_text.new.given c.new-given.ensures c.in_ok-take_text.ensures) c.end.ensures
