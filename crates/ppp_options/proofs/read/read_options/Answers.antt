use Rattle.std.proofs.Common.{refl, List, ℕ, Result, map}
use Rattle.std.specs.String.{string_bytes}
use Rattle.ppp_chat_words.specs.Split.{octets_in}
use Rattle.ppp_outside.specs.Files.{NamedFile}
use Rattle.ppp_options.proofs.PlaceLemmas.{err_of}
use Rattle.ppp_options.proofs.ReadsLemmas.{pure_reads, reached_start, step_err, step_last, step_ok}
use Rattle.ppp_options.proofs.WholeLemmas.{read_whole}
use Rattle.ppp_options.specs.ConfigOf.{ReadOf, ended}
use Rattle.ppp_option_words.specs.ConfigValues.{ConfigValues}
use Rattle.ppp_options.specs.GivenValue.{GivenValue}
use Rattle.ppp_options.specs.Steps.{read_from}
use Rattle.ppp_option_words.specs.declared.fault.OptionsFault.{OptionsFault}
use Rattle.ppp_options.proofs.read.read_options.Goals as goal

pub returns-in_err-place_words : goal.returns-in_err-place_words
returns-in_err-place_words g c =
    let words : List (List ℕ) = map string_bytes c.args.words.now in
    let whole : List NamedFile → Result ConfigValues OptionsFault = λ all. ReadOf words all in
    let step : List NamedFile → Result GivenValue OptionsFault = λ all. read_from all 8 c.new-given.result (octets_in c.as_slice.result.now) in
    let next : List NamedFile → GivenValue → Result ConfigValues OptionsFault = λ all given. ended given.awaits given.items in
    rw (err_of _ c.in_err-place_words.field-0.0 c.from_residual-in_err-place_words.ensures.1)
    (step_err (g.F.Files.state c.args.files.now) (g.F.Files.state c.args.files.now) (g.F.Files.state c.place_words.new.files)
    (λ (done : Unit {0}). c.place_words.new.given) _ c.in_err-place_words.field-0.0 whole whole step next
    (reached_start (g.F.Files.state c.args.files.now) whole)
    c.in_err-place_words.ensures
    (λ all. read_whole all 8 words (octets_in c.as_slice.result.now) c.new-given.result c.new-given.ensures (rw c.as_slice.ensures.value c.in_ok-words.ensures)))

pub returns : goal.returns
returns g c =
    let words : List (List ℕ) = map string_bytes c.args.words.now in
    let whole : List NamedFile → Result ConfigValues OptionsFault = λ all. ReadOf words all in
    let step : List NamedFile → Result GivenValue OptionsFault = λ all. read_from all 8 c.new-given.result (octets_in c.as_slice.result.now) in
    let next : List NamedFile → GivenValue → Result ConfigValues OptionsFault = λ all given. ended given.awaits given.items in
    let reached = step_ok (g.F.Files.state c.args.files.now) (g.F.Files.state c.args.files.now) (g.F.Files.state c.place_words.new.files)
    (λ (done : Unit {0}). c.place_words.new.given) c.in_ok-place_words.field-0 whole whole step next
    (reached_start (g.F.Files.state c.args.files.now) whole)
    c.in_ok-place_words.ensures
    (λ all. read_whole all 8 words (octets_in c.as_slice.result.now) c.new-given.result c.new-given.ensures (rw c.as_slice.ensures.value c.in_ok-words.ensures)) in
    step_last _ _ _ _ _ whole (λ all. next all c.place_words.new.given) reached
    (pure_reads _ _ _ _ _ c.end.ensures (λ all. refl))
