-- The words as a whole, read one after another.
use Rattle.std.proofs.Common.{◌≡◌, sym, refl, ℕ, List, [], Result, Ok, Err}
use Rattle.ppp_outside.specs.Files.{NamedFile}
use Rattle.ppp_options.proofs.CourseLemmas.{left_open, read_same}
use Rattle.ppp_options.specs.ConfigOf.{at_ending, course_read, ended}
use Rattle.ppp_options.specs.GivenValue.{GivenValue}
use Rattle.ppp_options.specs.InPlace.{Ending, Open, Broken, in_place}
use Rattle.ppp_options.specs.Meaning.{meant}
use Rattle.ppp_option_words.specs.Results.{ok_then}
use Rattle.ppp_options.specs.Steps.{read_from}
use Rattle.ppp_option_words.specs.declared.fault.OptionsFault.{OptionsFault}
use Rattle.ppp_option_words.specs.declared.item.Item.{Item}
use Rattle.ppp_options.specs.declared.given.Awaits.TheVariants.{Nothing}

-- before the first word
abbrev pub start : GivenValue
start = record { items = []; awaits = Nothing; links = 0 }

pub end_whole : (ending : Ending) (items : Result (List Item) OptionsFault)
    → ok_then (ok_then items (left_open start ending)) (λ (given : GivenValue). ended given.awaits given.items) ≡ ok_then items (at_ending ending)
end_whole (Open awaits) (Ok items) = refl
end_whole (Broken fault) (Ok items) = refl
end_whole ending (Err fault) = refl

-- the words as a whole, where files may be nested so deep
pub read_whole : (files : List NamedFile) (depth : ℕ) (words taken : List (List ℕ)) (given : GivenValue) → given ≡ start → taken ≡ words
    → course_read files (in_place files depth Nothing words) ≡ ok_then (read_from files depth given taken) (λ (next : GivenValue). ended next.awaits next.items)
read_whole files depth words taken given first same =
    rw (first, same, read_same files depth words start Nothing refl)
    (sym (end_whole (in_place files depth Nothing words).ending (meant files 0 (in_place files depth Nothing words).entries)))
