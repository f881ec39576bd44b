-- What the words in their places say is what reading them one after another leaves.
use Rattle.std.proofs.Common.{◌≡◌, ◌∙◌, sym, ap, refl, ℕ, zero, suc, List, [], ◌∷◌, ◌++◌, Option, Some, None, Result, Ok, Err}
use Rattle.std.proofs.lemmas.List.{append-nil, append_assoc}
use Rattle.ppp_outside.specs.Files.{NamedFile}
use Rattle.ppp_options.proofs.PlaceLemmas.{then_then}
use Rattle.ppp_options.specs.FileRead.{FileRead, unless_open}
use Rattle.ppp_options.specs.GivenValue.{GivenValue}
use Rattle.ppp_options.specs.declared.file_words.OpenQuote.{OpenQuote}
use Rattle.ppp_options.specs.InPlace.{Entry, Alone, Ending, Open, Broken, Course, with_entry, follow, follow_ending, at_word, at_file, behind_file, placed, opened, too_deep, in_place}
use Rattle.ppp_options.specs.Meaning.{entry_item, links_with, meant, unless_many, value_item, word_item}
use Rattle.ppp_option_words.specs.Results.{ok_map, ok_then}
use Rattle.ppp_options.specs.Steps.{all_taken, awaiting, file_taken, longer, pushed_read, read_from, taken, word_taken, Inner, Reader}
use Rattle.ppp_option_words.specs.Table.{kind_of}
use Rattle.ppp_option_words.specs.declared.fault.OptionsFault.{OptionsFault}
use Rattle.ppp_option_words.specs.declared.item.Item.{Item}
use Rattle.ppp_option_words.specs.declared.kind.Kind.{Kind}
use Rattle.ppp_option_words.specs.declared.kind.Kind.TheVariants as kind
use Rattle.ppp_options.specs.declared.given.Awaits.{Awaits}
use Rattle.ppp_options.specs.declared.given.Awaits.TheVariants.{Nothing, Value, FileName}

-- the number of links behind items
abbrev pub links_after : ℕ → List Item → ℕ
links_after links [] = links
links_after links (said ∷ items) = links_after (links_with links said) items

-- with what more words say
abbrev pub with_items : GivenValue → List Item → Awaits → GivenValue
with_items given items awaits = record { items = given.items ++ items; awaits = awaits; links = links_after given.links items }

abbrev pub left_open : GivenValue → Ending → List Item → Result GivenValue OptionsFault
left_open given (Open awaits) items = Ok (with_items given items awaits)
left_open given (Broken fault) items = Err fault

-- what a course leaves
abbrev pub joined : List NamedFile → GivenValue → Course → Result GivenValue OptionsFault
joined files given course = ok_then (meant files given.links course.entries) (left_open given course.ending)

-- one item more
open_behind : (given : GivenValue) (said : Item) (ending : Ending) (read : Result (List Item) OptionsFault)
    → ok_then (ok_map (λ (items : List Item). said ∷ items) read) (left_open given ending) ≡ ok_then read (left_open (awaiting (longer given said) Nothing) ending)
open_behind given said (Open awaits) (Ok items) =
    ap (λ (all : List Item). Ok (record { items = all; awaits = awaits; links = links_after (links_with given.links said) items })) (sym (append_assoc given.items (said ∷ []) items))
open_behind given said (Broken fault) (Ok items) = refl
open_behind given said ending (Err fault) = refl

entry_more : (files : List NamedFile) (given : GivenValue) (read : Result Item OptionsFault) (entries : List Entry) (ending : Ending)
    → ok_then (ok_then (ok_then read (unless_many given.links)) (λ (said : Item). ok_map (λ (items : List Item). said ∷ items) (meant files (links_with given.links said) entries))) (left_open given ending)
    ≡ ok_then (pushed_read (awaiting given Nothing) read) (λ (next : GivenValue). joined files next (record { entries = entries; ending = ending }))
entry_more files given (Err fault) entries ending = refl
entry_more files given (Ok said) entries ending = go (unless_many given.links said)
  where
    go : (limited : Result Item OptionsFault)
        → ok_then (ok_then limited (λ (item : Item). ok_map (λ (items : List Item). item ∷ items) (meant files (links_with given.links item) entries))) (left_open given ending)
        ≡ ok_then (ok_then limited (λ (item : Item). Ok (longer (awaiting given Nothing) item))) (λ (next : GivenValue). joined files next (record { entries = entries; ending = ending }))
    go (Err fault) = refl
    go (Ok item) = open_behind given item ending (meant files (links_with given.links item) entries)

links_append : (links : ℕ) (xs ys : List Item) → links_after links (xs ++ ys) ≡ links_after (links_after links xs) ys
links_append links [] ys = refl
links_append links (x ∷ xs) ys = links_append (links_with links x) xs ys

-- a word of a course
word_more : (files : List NamedFile) (given : GivenValue) (word : List ℕ) (known : Option Kind) (course : Course)
    → kind_of word ≡ known → pushed_read given (word_item word known) ≡ pushed_read (awaiting given Nothing) (word_item word known)
    → joined files given (with_entry (Alone word) course) ≡ ok_then (pushed_read given (word_item word known)) (λ (next : GivenValue). joined files next course)
word_more files given word known course is same =
    entry_more files given (word_item word (kind_of word)) course.entries course.ending
    ∙ ap (λ (other : Option Kind). ok_then (pushed_read (awaiting given Nothing) (word_item word other)) (λ (next : GivenValue). joined files next course)) is
    ∙ ap (λ (read : Result GivenValue OptionsFault). ok_then read (λ (next : GivenValue). joined files next course)) (sym same)

-- what a list of entries says is what its parts say
meant_append : (files : List NamedFile) (links : ℕ) (xs ys : List Entry)
    → meant files links (xs ++ ys) ≡ ok_then (meant files links xs) (λ (items : List Item). ok_map (λ (more : List Item). items ++ more) (meant files (links_after links items) ys))
meant_append files links [] ys = whole (meant files links ys)
  where
    whole : (read : Result (List Item) OptionsFault) → read ≡ ok_map (λ (more : List Item). more) read
    whole (Ok items) = refl
    whole (Err fault) = refl
meant_append files links (x ∷ xs) ys = go (ok_then (entry_item files x) (unless_many links)) (λ said. meant_append files (links_with links said) xs ys)
  where
    inner : (said : Item) (read : Result (List Item) OptionsFault)
        → ok_map (λ (items : List Item). said ∷ items) (ok_then read (λ (items : List Item). ok_map (λ (more : List Item). items ++ more) (meant files (links_after (links_with links said) items) ys)))
        ≡ ok_then (ok_map (λ (items : List Item). said ∷ items) read) (λ (items : List Item). ok_map (λ (more : List Item). items ++ more) (meant files (links_after links items) ys))
    inner said (Err fault) = refl
    inner said (Ok items) = last (meant files (links_after (links_with links said) items) ys)
      where
        last : (read : Result (List Item) OptionsFault)
            → ok_map (λ (all : List Item). said ∷ all) (ok_map (λ (more : List Item). items ++ more) read) ≡ ok_map (λ (more : List Item). (said ∷ items) ++ more) read
        last (Ok more) = refl
        last (Err fault) = refl

    go : (read : Result Item OptionsFault)
        → ((said : Item) → meant files (links_with links said) (xs ++ ys)
        ≡ ok_then (meant files (links_with links said) xs) (λ (items : List Item). ok_map (λ (more : List Item). items ++ more) (meant files (links_after (links_with links said) items) ys)))
        → ok_then read (λ (said : Item). ok_map (λ (items : List Item). said ∷ items) (meant files (links_with links said) (xs ++ ys)))
        ≡ ok_then (ok_then read (λ (said : Item). ok_map (λ (items : List Item). said ∷ items) (meant files (links_with links said) xs)))
        (λ (items : List Item). ok_map (λ (more : List Item). items ++ more) (meant files (links_after links items) ys))
    go (Err fault) rest = refl
    go (Ok said) rest = rw (rest said) (inner said (meant files (links_with links said) xs))

-- a course behind another
pub follow_more : (files : List NamedFile) (given : GivenValue) (course : Course) (rest : Awaits → Course)
    → joined files given (follow course rest) ≡ ok_then (joined files given course) (λ (next : GivenValue). joined files next (rest next.awaits))
follow_more files given (course) rest = go course.entries course.ending
  where
    behind : (items : List Item) (awaits : Awaits) (ending : Ending) (read : Result (List Item) OptionsFault)
        → ok_then (ok_map (λ (more : List Item). items ++ more) read) (left_open given ending) ≡ ok_then read (left_open (with_items given items awaits) ending)
    behind items awaits (Open next) (Ok more) =
        λ i. Ok (record { items = sym (append_assoc given.items items more) i; awaits = next; links = links_append given.links items more i })
    behind items awaits (Broken fault) (Ok more) = refl
    behind items awaits ending (Err fault) = refl

    each : (awaits : Awaits) (read : Result (List Item) OptionsFault)
        → ok_then (ok_then read (λ (items : List Item). ok_map (λ (more : List Item). items ++ more) (meant files (links_after given.links items) (rest awaits).entries))) (left_open given (rest awaits).ending)
        ≡ ok_then (ok_then read (left_open given (Open awaits))) (λ (next : GivenValue). joined files next (rest next.awaits))
    each awaits (Ok items) = behind items awaits (rest awaits).ending (meant files (links_after given.links items) (rest awaits).entries)
    each awaits (Err fault) = refl

    broken : (fault : OptionsFault) (read : Result (List Item) OptionsFault)
        → ok_then read (left_open given (Broken fault)) ≡ ok_then (ok_then read (left_open given (Broken fault))) (λ (next : GivenValue). joined files next (rest next.awaits))
    broken fault (Ok items) = refl
    broken fault (Err other) = refl

    go : (entries : List Entry) (ending : Ending)
        → joined files given (follow_ending entries ending rest)
        ≡ ok_then (joined files given (record { entries = entries; ending = ending })) (λ (next : GivenValue). joined files next (rest next.awaits))
    go entries (Open awaits) = rw (meant_append files given.links entries (rest awaits).entries) (each awaits (meant files given.links entries))
    go entries (Broken fault) = broken fault (meant files given.links entries)

ok_each : {X Y : Type 0} (read : Result X OptionsFault) (f g : X → Result Y OptionsFault) → ((x : X) → f x ≡ g x) → ok_then read f ≡ ok_then read g
ok_each (Ok x) f g same = same x
ok_each (Err fault) f g same = refl

pushed_each : {Y : Type 0} (given : GivenValue) (read : Result Item OptionsFault) (f g : GivenValue → Result Y OptionsFault)
    → ((said : Item) → f (longer given said) ≡ g (longer given said)) → ok_then (pushed_read given read) f ≡ ok_then (pushed_read given read) g
pushed_each given (Err fault) f g same = refl
pushed_each given (Ok said) f g same = go (unless_many given.links said)
  where
    go : (limited : Result Item OptionsFault)
        → ok_then (ok_then limited (λ (item : Item). Ok (longer given item))) f ≡ ok_then (ok_then limited (λ (item : Item). Ok (longer given item))) g
    go (Ok item) = same item
    go (Err fault) = refl

-- no words leave what there was
abbrev Same : Result GivenValue OptionsFault → Result GivenValue OptionsFault → Type 0
Same one other = one ≡ other

nothing_more : (given : GivenValue) (awaits : Awaits) → given.awaits ≡ awaits → Same (Ok given) (Ok (with_items given [] awaits))
nothing_more given awaits is = λ i. Ok (record { items = sym (append-nil given.items) i; awaits = is i; links = given.links })

-- the first word where this is awaited, and then the others
abbrev step_of : List NamedFile → Reader → Inner → GivenValue → List ℕ → List (List ℕ) → Awaits → Result GivenValue OptionsFault
step_of files file inner given word words awaits = ok_then (taken files file inner awaits given word) (λ (next : GivenValue). all_taken files file inner next words)

-- all words of a level, where what a file's words do is the same both ways
level : (files : List NamedFile) (file : Reader) (inner : Inner) (course : List (List ℕ) → Course)
    → ((given : GivenValue) (words : List (List ℕ)) → given.awaits ≡ Nothing → inner given words ≡ joined files given (course words))
    → (words : List (List ℕ)) (given : GivenValue) (awaits : Awaits) → given.awaits ≡ awaits
    → all_taken files file inner given words ≡ joined files given (placed file course awaits words)
level files file inner course same [] given awaits is = nothing_more given awaits is
level files file inner course same (word ∷ words) given (Value valued) is =
    ap (step_of files file inner given word words) is
    ∙ (pushed_each (awaiting given Nothing) (value_item files valued word) (λ (next : GivenValue). all_taken files file inner next words)
    (λ (next : GivenValue). joined files next (placed file course Nothing words))
    (λ said. level files file inner course same words (longer (awaiting given Nothing) said) Nothing refl)
    ∙ sym (entry_more files given (value_item files valued word) (placed file course Nothing words).entries (placed file course Nothing words).ending))
level files file inner course same (word ∷ words) given Nothing is =
    ap (step_of files file inner given word words) is ∙ (go (kind_of word) refl (λ next awaits awaited. level files file inner course same words next awaits awaited))
  where
    Rest : Type 0
    Rest = (next : GivenValue) (awaits : Awaits) → next.awaits ≡ awaits → all_taken files file inner next words ≡ joined files next (placed file course awaits words)

    alone : (known : Option Kind) → kind_of word ≡ known → Rest
        → ok_then (pushed_read given (word_item word known)) (λ (next : GivenValue). all_taken files file inner next words)
        ≡ joined files given (with_entry (Alone word) (placed file course Nothing words))
    alone known found rest =
        pushed_each given (word_item word known) (λ (next : GivenValue). all_taken files file inner next words)
        (λ (next : GivenValue). joined files next (placed file course Nothing words)) (λ said. rest (longer given said) Nothing is)
        ∙ sym (word_more files given word known (placed file course Nothing words) found (λ i. pushed_read (record given { awaits = is i }) (word_item word known)))

    go : (known : Option Kind) → kind_of word ≡ known → Rest
        → ok_then (word_taken given word known) (λ (next : GivenValue). all_taken files file inner next words)
        ≡ joined files given (at_word word known (λ (awaits : Awaits). placed file course awaits words))
    go (Some (kind.Included included)) found rest = rest (awaiting given (FileName included)) (FileName included) refl
    go (Some (kind.Valued valued)) found rest = rest (awaiting given (Value valued)) (Value valued) refl
    go (Some kind.Link) found rest = alone (Some kind.Link) found rest
    go (Some (kind.Flag flag)) found rest = alone (Some (kind.Flag flag)) found rest
    go (Some (kind.Ignored ignored)) found rest = alone (Some (kind.Ignored ignored)) found rest
    go None found rest = alone None found rest
level files file inner course same (word ∷ words) given (FileName included) is =
    ap (step_of files file inner given word words) is ∙ (go (file included word) (λ next. level files file inner course same words next next.awaits refl))
  where
    behind_quote : (open_quote : Option OpenQuote)
        → ((next : GivenValue) → all_taken files file inner next words ≡ joined files next (placed file course next.awaits words))
        → (done : GivenValue)
        → ok_then (unless_open open_quote done) (λ (next : GivenValue). all_taken files file inner next words)
        ≡ joined files done (behind_file open_quote (λ (awaits : Awaits). placed file course awaits words) done.awaits)
    behind_quote None rest done = rest done
    behind_quote (Some quote) rest done = refl

    go : (read : Result FileRead OptionsFault)
        → ((next : GivenValue) → all_taken files file inner next words ≡ joined files next (placed file course next.awaits words))
        → ok_then (ok_then read (file_taken inner (awaiting given Nothing))) (λ (next : GivenValue). all_taken files file inner next words)
        ≡ joined files given (at_file read course (λ (awaits : Awaits). placed file course awaits words))
    go (Err fault) rest = refl
    go (Ok inside) rest =
        ap (λ (read : Result GivenValue OptionsFault). ok_then (ok_then read (unless_open inside.open_quote)) (λ (next : GivenValue). all_taken files file inner next words))
        (same (awaiting given Nothing) inside.words refl)
        ∙ (then_then (joined files given (course inside.words)) (unless_open inside.open_quote) (λ (next : GivenValue). all_taken files file inner next words)
        ∙ ok_each (joined files given (course inside.words))
        (λ (done : GivenValue). ok_then (unless_open inside.open_quote done) (λ (next : GivenValue). all_taken files file inner next words))
        (λ (next : GivenValue). joined files next (behind_file inside.open_quote (λ (awaits : Awaits). placed file course awaits words) next.awaits))
        (behind_quote inside.open_quote rest)
        ∙ sym (follow_more files given (course inside.words) (behind_file inside.open_quote (λ (awaits : Awaits). placed file course awaits words))))

-- Reading one word after another leaves what the words in their places say.
pub read_same : (files : List NamedFile) (depth : ℕ) (words : List (List ℕ)) (given : GivenValue) (awaits : Awaits) → given.awaits ≡ awaits
    → read_from files depth given words ≡ joined files given (in_place files depth awaits words)
read_same files zero words given awaits is =
    level files too_deep (λ (inside : GivenValue) (inner : List (List ℕ)). Ok inside) (λ (inner : List (List ℕ)). record { entries = []; ending = Open Nothing })
    (λ inside inner none. nothing_more inside Nothing none) words given awaits is
read_same files (suc depth) words given awaits is =
    level files (opened files) (read_from files depth) (in_place files depth Nothing)
    (λ inside inner none. read_same files depth inner inside Nothing none) words given awaits is
