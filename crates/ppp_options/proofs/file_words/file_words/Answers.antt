use Rattle.std.proofs.Common.{refl, sym, List, ℕ, Result, Ok}
use Rattle.std.specs.Global.{Vec}
use Rattle.ppp_chat_words.specs.Split.{octets_in}
use Rattle.ppp_outside.specs.Files.{NamedFile}
use Rattle.ppp_option_words.specs.declared.fault.OptionsFault.{OptionsFault}
use Rattle.ppp_options.proofs.PlaceLemmas.{err_of, then_ok}
use Rattle.ppp_options.proofs.ReadsLemmas.{pure_reads, reached_start, step_err, step_ok}
use Rattle.ppp_options.specs.FileRead.{FileRead, file_read, file_words, text_of, unless_open}
use Rattle.ppp_options.proofs.file_words.file_words.Goals as goal

pub returns-in_err-no_open_quote : goal.returns-in_err-no_open_quote
returns-in_err-no_open_quote g c =
    let whole : List NamedFile → Result (List (List ℕ)) OptionsFault = λ all. file_words c.args.backslash all c.args.name.now in
    let words : List (List ℕ) = octets_in c.in_ok-text.text.words.items in
    let reached = step_ok _ _ _ text_of c.in_ok-text.text whole whole
    (λ all. file_read c.args.backslash all c.args.name.now) (λ all (file : FileRead). unless_open file.open_quote file.words)
    (reached_start _ whole) c.in_ok-text.ensures (λ all. refl) in
    rw (err_of _ c.in_err-no_open_quote.field-0.0 c.from_residual-in_err-no_open_quote.ensures.1)
    (step_err _ _ _ (λ (done : Unit {0}). words) (λ (read : Vec (Vec ℕ)). octets_in read.items) c.in_err-no_open_quote.field-0.0 whole
    (λ all. unless_open c.in_ok-text.text.open_quote words)
    (λ all. unless_open c.in_ok-text.text.open_quote words) (λ all (read : List (List ℕ)). Ok read)
    reached
    (pure_reads _ _ _ _ _ (c.in_err-no_open_quote.ensures.words words) (λ all. refl))
    (λ all. sym (then_ok (unless_open c.in_ok-text.text.open_quote words))))
