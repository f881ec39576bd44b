-- Reading one word after another, as the private calls do it. What they read is what `in_place` and `meant` say.
use Rattle.std.specs.Prelude.{ℕ, zero, suc, List, [], ◌∷◌, ◌++◌, Option, Some, None, Result, Ok}
use Rattle.ppp_outside.specs.Files.{NamedFile}
use Rattle.ppp_options.specs.FileRead.{FileRead, unless_open}
use Rattle.ppp_options.specs.GivenValue.{GivenValue}
use Rattle.ppp_options.specs.InPlace.{opened, too_deep}
use Rattle.ppp_options.specs.Meaning.{links_with, unless_many, value_item, word_item}
use Rattle.ppp_option_words.specs.Results.{ok_then}
use Rattle.ppp_option_words.specs.Table.{kind_of}
use Rattle.ppp_option_words.specs.declared.fault.OptionsFault.{OptionsFault}
use Rattle.ppp_option_words.specs.declared.item.Item.{Item}
use Rattle.ppp_option_words.specs.declared.kind.Kind.{Kind}
use Rattle.ppp_option_words.specs.declared.kind.Kind.TheVariants as kind
use Rattle.ppp_option_words.specs.declared.kind.Included.{Included}
use Rattle.ppp_options.specs.declared.given.Awaits.{Awaits}
use Rattle.ppp_options.specs.declared.given.Awaits.TheVariants.{Nothing, Value, FileName}

-- with what one more word says
abbrev pub longer : GivenValue → Item → GivenValue
longer given said = record given { items = given.items ++ said ∷ []; links = links_with given.links said }

abbrev pub pushed : GivenValue → Item → Result GivenValue OptionsFault
pushed given said = ok_then (unless_many given.links said) (λ (item : Item). Ok (longer given item))

-- with what a word says, if it says something
abbrev pub pushed_read : GivenValue → Result Item OptionsFault → Result GivenValue OptionsFault
pushed_read given read = ok_then read (pushed given)

abbrev pub awaiting : GivenValue → Awaits → GivenValue
awaiting given awaits = record given { awaits = awaits }

-- a word where nothing is awaited
abbrev pub word_taken : GivenValue → List ℕ → Option Kind → Result GivenValue OptionsFault
word_taken given word (Some (kind.Included included)) = Ok (awaiting given (FileName included))
word_taken given word (Some (kind.Valued valued)) = Ok (awaiting given (Value valued))
word_taken given word (Some kind.Link) = pushed_read given (word_item word (Some kind.Link))
word_taken given word (Some (kind.Flag flag)) = pushed_read given (word_item word (Some (kind.Flag flag)))
word_taken given word (Some (kind.Ignored ignored)) = pushed_read given (word_item word (Some (kind.Ignored ignored)))
word_taken given word None = pushed_read given (word_item word None)

-- how files are read, and what their words do
abbrev pub Reader : Type 0
Reader = Included → List ℕ → Result FileRead OptionsFault

-- where files may be nested so deep
abbrev pub reader_at : ℕ → List NamedFile → Reader
reader_at zero files = too_deep
reader_at (suc depth) files = opened files

abbrev pub Inner : Type 0
Inner = GivenValue → List (List ℕ) → Result GivenValue OptionsFault

-- the words of a file, and the quote that is open behind them
abbrev pub file_taken : Inner → GivenValue → FileRead → Result GivenValue OptionsFault
file_taken inner given file = ok_then (inner given file.words) (unless_open file.open_quote)

-- a word where this is awaited
abbrev pub taken : List NamedFile → Reader → Inner → Awaits → GivenValue → List ℕ → Result GivenValue OptionsFault
taken files file inner Nothing given word = word_taken given word (kind_of word)
taken files file inner (Value valued) given word = pushed_read (awaiting given Nothing) (value_item files valued word)
taken files file inner (FileName included) given word = ok_then (file included word) (file_taken inner (awaiting given Nothing))

abbrev pub all_taken : List NamedFile → Reader → Inner → GivenValue → List (List ℕ) → Result GivenValue OptionsFault
all_taken files file inner given [] = Ok given
all_taken files file inner given (word ∷ words) =
    ok_then (taken files file inner given.awaits given word) (λ (next : GivenValue). all_taken files file inner next words)

-- what words leave, where files may be nested so deep
abbrev pub read_from : List NamedFile → ℕ → GivenValue → List (List ℕ) → Result GivenValue OptionsFault
read_from files zero given words = all_taken files too_deep (λ inner-given inner. Ok inner-given) given words
read_from files (suc depth) given words = all_taken files (opened files) (read_from files depth) given words
