-- A text over no files, read one word after another.
use Rattle.std.proofs.Common.{◌≡◌, ◌∙◌, sym, ap, refl, arith, ℕ, List, [], ◌++◌, Option, Some, None, Result, Ok, Err}
use Rattle.std.proofs.lemmas.List.{append-nil}
use Rattle.ppp_chat_words.specs.Split.{FrontWords}
use Rattle.ppp_outside.specs.Counts.{CountsFault}
use Rattle.ppp_outside.specs.Files.{NamedFile, FilesState}
use Rattle.ppp_option_words.specs.Answers.{Gives, GivesUnlessFailed, ReadsWith, failed}
use Rattle.ppp_option_words.specs.ConfigValues.{ConfigValues}
use Rattle.ppp_option_words.specs.Results.{ok_then}
use Rattle.ppp_option_words.specs.declared.fault.OptionsFault.{OptionsFault}
use Rattle.ppp_option_words.specs.declared.fault.OptionsFault.TheVariants as options
use Rattle.ppp_option_words.specs.declared.item.Item.{Item}
use Rattle.ppp_options.proofs.CourseLemmas.{follow_more, joined, left_open, read_same, with_items}
use Rattle.ppp_options.proofs.PlaceLemmas.{then_then}
use Rattle.ppp_options.proofs.WholeLemmas.{start, end_whole}
use Rattle.ppp_options.specs.ConfigOf.{course_read, ended}
use Rattle.ppp_options.specs.FileRead.{quote_of, unless_open}
use Rattle.ppp_options.specs.GivenValue.{GivenValue}
use Rattle.ppp_options.specs.InPlace.{Course, Open, behind_file, follow, in_place}
use Rattle.ppp_options.specs.Meaning.{meant}
use Rattle.ppp_options.specs.OptionsText.{course_of, front_taken}
use Rattle.ppp_options.specs.Steps.{read_from}
use Rattle.ppp_options.specs.declared.file_words.OpenQuote.{OpenQuote}
use Rattle.ppp_options.specs.declared.given.Awaits.{Awaits}
use Rattle.ppp_options.specs.declared.given.Awaits.TheVariants.{Nothing}

never_fails : {X Y : Type 0} → (view : X → Y) (answer : Result X OptionsFault) (read : Result Y OptionsFault) → GivesUnlessFailed view answer read → CountsFault (failed answer) 0 0
    → Gives view answer read
never_fails view (Ok x) read gives counts = gives
never_fails view (Err options.NoMemory) read gives counts = tt
never_fails view (Err (options.FileFault name)) read gives counts = omega (arith, counts)
never_fails view (Err (options.Unknown word)) read gives counts = gives
never_fails view (Err (options.Missing word)) read gives counts = gives
never_fails view (Err (options.BadNumber word)) read gives counts = gives
never_fails view (Err (options.OutOfRange word)) read gives counts = gives
never_fails view (Err (options.Clash one other)) read gives counts = gives
never_fails view (Err (options.Depth word)) read gives counts = gives
never_fails view (Err (options.BadQuote word line)) read gives counts = gives
never_fails view (Err (options.TooMany number)) read gives counts = gives
never_fails view (Err (options.NoFile word)) read gives counts = gives
never_fails view (Err (options.BadScript word)) read gives counts = gives

-- no files
abbrev pub none_at_all : FilesState
none_at_all = record { files = Some []; faults = 0 }

-- Over no files the outside never fails.
pub over_none : {X Y : Type 0} (view : X → Y) (answer : Result X OptionsFault) (read : List NamedFile → Result Y OptionsFault)
    → ReadsWith none_at_all none_at_all view answer read → Gives view answer (read [])
over_none view answer read reads = never_fails view answer (read []) reads.gives reads.faults

-- behind the words: a quote may be open
quote_behind : (open_quote : Option OpenQuote) (next : GivenValue)
    → joined [] next (behind_file open_quote (λ awaits. record { entries = []; ending = Open awaits }) next.awaits) ≡ unless_open open_quote next
quote_behind None next = λ i. Ok (record { items = append-nil next.items i; awaits = next.awaits; links = next.links })
quote_behind (Some quote) next = refl

ok_each : {X Y : Type 0} (read : Result X OptionsFault) (f g : X → Result Y OptionsFault) → ((x : X) → f x ≡ g x) → ok_then read f ≡ ok_then read g
ok_each (Ok x) f g same = same x
ok_each (Err fault) f g same = refl

-- The text as a whole, read one word after another.
pub text_whole : (front : FrontWords)
    → course_read [] (course_of front) ≡ ok_then (front_taken start front) (λ (given : GivenValue). ended given.awaits given.items)
text_whole front =
    let words = in_place [] 8 Nothing front.words in
    let behind : Awaits → Course = behind_file (quote_of [] front.open_quote) (λ awaits. record { entries = []; ending = Open awaits }) in
    let whole : Course = follow words behind in
    let last : GivenValue → Result ConfigValues OptionsFault = λ (given : GivenValue). ended given.awaits given.items in
    sym (end_whole whole.ending (meant [] 0 whole.entries))
    ∙ ap (λ (read : Result GivenValue OptionsFault). ok_then read last)
    (follow_more [] start words behind
    ∙ ok_each (joined [] start words) (λ (next : GivenValue). joined [] next (behind next.awaits)) (unless_open (quote_of [] front.open_quote)) (quote_behind (quote_of [] front.open_quote))
    ∙ ap (λ (read : Result GivenValue OptionsFault). ok_then read (unless_open (quote_of [] front.open_quote))) (sym (read_same [] 8 front.words start Nothing refl)))

whole_from : (front : FrontWords) (given : GivenValue) → given ≡ start
    → course_read [] (course_of front) ≡ ok_then (front_taken given front) (λ (next : GivenValue). ended next.awaits next.items)
whole_from front given first = rw first (text_whole front)

-- where its words were taken, what stands at their end
pub text_taken : (front : FrontWords) (given next : GivenValue) → given ≡ start → front_taken given front ≡ Ok next
    → course_read [] (course_of front) ≡ ended next.awaits next.items
text_taken front given next first taken =
    whole_from front given first ∙ ap (λ (read : Result GivenValue OptionsFault). ok_then read (λ (next : GivenValue). ended next.awaits next.items)) taken

gives_on : {X Y Z W : Type 0} (view : X → Y) (other : Z → W) (fault : OptionsFault) (read : Result Y OptionsFault) (rest : Y → Result W OptionsFault)
    → Gives view (Err fault) read → Gives other (Err fault) (ok_then read rest)
gives_on view other options.NoMemory read rest gives = tt
gives_on view other (options.FileFault name) read rest gives = absurd gives
gives_on view other fault read rest gives = rw gives refl

-- where one of them has a fault, that
pub text_fails : {X Z : Type 0} (view : X → GivenValue) (other : Z → ConfigValues) (front : FrontWords) (given : GivenValue) (fault : OptionsFault)
    → given ≡ start → Gives view (Err fault) (front_taken given front) → Gives other (Err fault) (course_read [] (course_of front))
text_fails view other front given fault first gives =
    rw (whole_from front given first) (gives_on view other fault (front_taken given front) (λ (next : GivenValue). ended next.awaits next.items) gives)
