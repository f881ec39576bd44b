use Rattle.std.proofs.Common.{◌∙◌, ◌-◌, sym, refl, List}
use Rattle.ppp_chat_words.specs.Split.{octets_in}
use Rattle.ppp_outside.specs.Files.{NamedFile}
use Rattle.ppp_options.proofs.PlaceLemmas.{err_of, file_goes, no_words, others, step_goes}
use Rattle.ppp_options.proofs.ReadsLemmas.{pure_reads, step_end, step_err, step_ok}
use Rattle.ppp_options.specs.FileRead.{FileRead, text_of, unless_open}
use Rattle.ppp_options.specs.GivenValue.{GivenValue}
use Rattle.ppp_options.specs.Meaning.{value_item}
use Rattle.ppp_options.specs.Steps.{awaiting, pushed_read, read_from, reader_at, word_taken}
use Rattle.ppp_option_words.specs.Results.{ok_then}
use Rattle.ppp_option_words.specs.Table.{kind_of}
use Rattle.ppp_options.specs.declared.given.Awaits.TheVariants.{Nothing, Value}
use Rattle.ppp_options.proofs.placing.+place_words.Goals as goal

pub placing-preserved-in_ok-take_word-in-Nothing : goal.placing-preserved-in_ok-take_word-in-Nothing
placing-preserved-in_ok-take_word-in-Nothing g t c =
    step_ok _ _ _ (λ (done : Unit {0}). c.take_word.new.given) c.in_ok-take_word-in-Nothing.field-0 _ _
    (λ all. word_taken c.placing.given c.as_slice.result.now (kind_of c.as_slice.result.now))
    (λ all next. read_from all c.args.deeper next (octets_in (others c.placing.left.now)))
    c.placing.invariant
    (pure_reads _ _ _ _ _ c.in_ok-take_word-in-Nothing.ensures (λ all. refl))
    (λ all. rw c.as_slice.ensures.value
    (step_goes all c.args.deeper c.placing.given Nothing c.placing.left.now c.word-item.result c.in-len1-up.len_at_least c.word-item.is
    (sym c.awaits.ensures ∙ c.in-Nothing.is)))

pub placing-preserved-in_ok-take_value-in-Value : goal.placing-preserved-in_ok-take_value-in-Value
placing-preserved-in_ok-take_value-in-Value g t c =
    step_ok _ _ _ (λ (done : Unit {0}). c.take_value.new.given) c.in_ok-take_value-in-Value.field-0 _ _
    (λ all. pushed_read (awaiting c.placing.given Nothing) (value_item all c.in-Value.valued c.as_slice-in-Value.result.now))
    (λ all next. read_from all c.args.deeper next (octets_in (others c.placing.left.now)))
    c.placing.invariant
    c.in_ok-take_value-in-Value.ensures
    (λ all. rw c.as_slice-in-Value.ensures.value
    (step_goes all c.args.deeper c.placing.given (Value c.in-Value.valued) c.placing.left.now c.word-item.result c.in-len1-up.len_at_least c.word-item.is
    (sym c.awaits.ensures ∙ c.in-Value.is)))

pub returns-in_err-take_value-in-Value : goal.returns-in_err-take_value-in-Value
returns-in_err-take_value-in-Value g t c =
    rw (err_of _ c.in_err-take_value-in-Value.field-0.0 c.from_residual-in_err-take_value-in-Value.ensures.1)
    (step_err _ _ _ (λ (done : Unit {0}). c.take_value.new.given) _ c.in_err-take_value-in-Value.field-0.0 _ _
    (λ all. pushed_read (awaiting c.placing.given Nothing) (value_item all c.in-Value.valued c.as_slice-in-Value.result.now))
    (λ all next. read_from all c.args.deeper next (octets_in (others c.placing.left.now)))
    c.placing.invariant
    c.in_err-take_value-in-Value.ensures
    (λ all. rw c.as_slice-in-Value.ensures.value
    (step_goes all c.args.deeper c.placing.given (Value c.in-Value.valued) c.placing.left.now c.word-item.result c.in-len1-up.len_at_least c.word-item.is
    (sym c.awaits.ensures ∙ c.in-Value.is))))

pub returns-in_err-take_word-in-Nothing : goal.returns-in_err-take_word-in-Nothing
returns-in_err-take_word-in-Nothing g t c =
    rw (err_of _ c.in_err-take_word-in-Nothing.field-0.0 c.from_residual.ensures.1)
    (step_err _ _ _ (λ (done : Unit {0}). c.take_word.new.given) _ c.in_err-take_word-in-Nothing.field-0.0 _ _
    (λ all. word_taken c.placing.given c.as_slice.result.now (kind_of c.as_slice.result.now))
    (λ all next. read_from all c.args.deeper next (octets_in (others c.placing.left.now)))
    c.placing.invariant
    (pure_reads _ _ _ _ _ c.in_err-take_word-in-Nothing.ensures (λ all. refl))
    (λ all. rw c.as_slice.ensures.value
    (step_goes all c.args.deeper c.placing.given Nothing c.placing.left.now c.word-item.result c.in-len1-up.len_at_least c.word-item.is
    (sym c.awaits.ensures ∙ c.in-Nothing.is))))

pub returns-in_err-place_words-in-FileName : goal.returns-in_err-place_words-in-FileName
returns-in_err-place_words-in-FileName g t c =
    let read = λ (all : List NamedFile) (given : GivenValue). read_from all c.args.deeper given (octets_in (others c.placing.left.now)) in
    let behind = λ (all : List NamedFile) (file : FileRead) (done : GivenValue). ok_then (unless_open file.open_quote done) (read all) in
    let reached = step_ok _ _ _ text_of c.in_ok-inner-in-FileName.inner _ _
    (λ all. reader_at c.args.deeper all c.in-FileName.included c.as_slice-in-FileName.result.now)
    (λ all file. ok_then (read_from all (c.args.deeper - 1) (awaiting c.placing.given Nothing) file.words) (behind all file))
    c.placing.invariant
    c.in_ok-inner-in-FileName.ensures.reads
    (λ all. rw c.as_slice-in-FileName.ensures.value
    (file_goes all c.args.deeper c.placing.given c.in-FileName.included c.placing.left.now c.word-item.result c.in_ok-inner-in-FileName.ensures.deeper
    c.in-len1-up.len_at_least c.word-item.is (sym c.awaits.ensures ∙ c.in-FileName.is))) in
    rw (err_of _ c.in_err-place_words-in-FileName.field-0.0 c.from_residual-in_err-place_words-in-FileName.ensures.1)
    (step_err _ _ _ (λ (done : Unit {0}). c.place_words.new.given) _ c.in_err-place_words-in-FileName.field-0.0 _ _
    (λ all. read_from all (c.args.deeper - 1) c.await_now.new.self (octets_in c.as_slice-in-FileName-2.result.now))
    (λ all done. behind all (text_of c.in_ok-inner-in-FileName.inner) done)
    reached
    c.in_err-place_words-in-FileName.ensures
    (λ all. rw (c.as_slice-in-FileName-2.ensures.value, c.await_now.ensures) refl))

pub returns-in_err-no_open_quote-in-FileName : goal.returns-in_err-no_open_quote-in-FileName
returns-in_err-no_open_quote-in-FileName g t c =
    let read = λ (all : List NamedFile) (given : GivenValue). read_from all c.args.deeper given (octets_in (others c.placing.left.now)) in
    let behind = λ (all : List NamedFile) (file : FileRead) (done : GivenValue). ok_then (unless_open file.open_quote done) (read all) in
    let reached = step_ok _ _ _ text_of c.in_ok-inner-in-FileName.inner _ _
    (λ all. reader_at c.args.deeper all c.in-FileName.included c.as_slice-in-FileName.result.now)
    (λ all file. ok_then (read_from all (c.args.deeper - 1) (awaiting c.placing.given Nothing) file.words) (behind all file))
    c.placing.invariant
    c.in_ok-inner-in-FileName.ensures.reads
    (λ all. rw c.as_slice-in-FileName.ensures.value
    (file_goes all c.args.deeper c.placing.given c.in-FileName.included c.placing.left.now c.word-item.result c.in_ok-inner-in-FileName.ensures.deeper
    c.in-len1-up.len_at_least c.word-item.is (sym c.awaits.ensures ∙ c.in-FileName.is))) in
    let inside = step_ok _ _ _ (λ (done : Unit {0}). c.place_words.new.given) c.in_ok-place_words-in-FileName.field-0 _ _
    (λ all. read_from all (c.args.deeper - 1) c.await_now.new.self (octets_in c.as_slice-in-FileName-2.result.now))
    (λ all done. behind all (text_of c.in_ok-inner-in-FileName.inner) done)
    reached
    c.in_ok-place_words-in-FileName.ensures
    (λ all. rw (c.as_slice-in-FileName-2.ensures.value, c.await_now.ensures) refl) in
    rw (err_of _ c.in_err-no_open_quote-in-FileName.field-0.0 c.from_residual-in_err-no_open_quote-in-FileName.ensures.1)
    (step_err _ _ _ (λ (done : Unit {0}). c.place_words.new.given) _ c.in_err-no_open_quote-in-FileName.field-0.0 _ _
    (λ all. unless_open c.in_ok-inner-in-FileName.inner.open_quote c.place_words.new.given)
    read
    inside
    (pure_reads _ _ _ _ _ (c.in_err-no_open_quote-in-FileName.ensures.given c.place_words.new.given) (λ all. refl))
    (λ all. refl))

pub returns : goal.returns
returns g t c = step_end _ _ (λ (done : Unit {0}). c.placing.given) tt _ _ c.placing.invariant (λ all. no_words all c.args.deeper c.placing.given c.placing.left.now c.in_default.len_below)
