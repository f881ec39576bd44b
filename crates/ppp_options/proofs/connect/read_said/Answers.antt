use Rattle.std.proofs.Common.{◌≡◌, refl, ◌∙◌, List, ℕ, Result}
use Rattle.std.specs.Global.{Vec}
use Rattle.ppp_chat.specs.Script.{ChatScript}
use Rattle.ppp_chat_words.specs.Split.{octets_in}
use Rattle.ppp_outside.specs.Files.{NamedFile}
use Rattle.ppp_words.specs.declared.backslash.Backslash.TheVariants.{Kept}
use Rattle.ppp_options.proofs.FileLemmas.{chat_alone, chat_of_file}
use Rattle.ppp_options.proofs.ReadsLemmas.{pure_reads, reached_start, step_last, step_ok}
use Rattle.ppp_options.specs.Connect.{chat_read, script_in, unless_wrong}
use Rattle.ppp_options.specs.FileRead.{file_words}
use Rattle.ppp_option_words.specs.Results.{ok_then}
use Rattle.ppp_option_words.specs.declared.fault.OptionsFault.{OptionsFault}
use Rattle.ppp_options.proofs.connect.read_said.Goals as goal

pub returns-in-None : goal.returns-in-None
returns-in-None g c =
    pure_reads _ _ _ _ _ c.script_unless_wrong.ensures
    (λ all. chat_alone all (octets_in c.args.words.now) c.args.said.now c.in-None.is ∙ (rw c.words_from.ensures refl))

pub returns-in_ok-script-in-Some : goal.returns-in_ok-script-in-Some
returns-in_ok-script-in-Some g c =
    let words : List (List ℕ) = octets_in c.args.words.now in
    let whole : List NamedFile → Result ChatScript OptionsFault = λ all. chat_read all words c.args.said.now in
    let step : List NamedFile → Result (List (List ℕ)) OptionsFault = λ all. file_words Kept all c.word_at.result.now in
    let next : List NamedFile → List (List ℕ) → Result ChatScript OptionsFault =
    λ all script. unless_wrong words c.args.said.now.wrong (script_in script c.args.said.now.timeout_s) in
    let goes : (all : List NamedFile) → whole all ≡ ok_then (step all) (next all) =
    λ all. rw c.word_at.ensures (chat_of_file all words c.args.said.now c.in-Some.at c.in-Some.is) in
    let reached = step_ok (g.F.Files.state c.args.files.now) (g.F.Files.state c.args.files.now) (g.F.Files.state c.file_words.new.files)
    (λ (read : Vec (Vec ℕ)). octets_in read.items) c.in_ok-script-in-Some.script whole whole step next
    (reached_start (g.F.Files.state c.args.files.now) whole) c.in_ok-script-in-Some.ensures goes in
    step_last _ _ _ _ _ whole (λ all. next all (octets_in c.in_ok-script-in-Some.script.items)) reached
    (pure_reads _ _ _ _ _ c.script_unless_wrong-in-Some.ensures (λ all. rw c.as_slice.ensures.value refl))
