-- What option words are as a configuration (pppd(8), "Options").
use Rattle.std.specs.Prelude.{ℕ, List, codes, unwrap_or, Result, Err}
use Rattle.ppp_outside.specs.Files.{NamedFile}
use Rattle.ppp_outside.specs.declared.hook_paths.HookPaths.{HookPaths}
use Rattle.ppp_options.specs.InPlace.{Course, Ending, Open, Broken, in_place}
use Rattle.ppp_options.specs.Last.{last_of}
use Rattle.ppp_options.specs.LinkOf.{number_of}
use Rattle.ppp_option_words.specs.LinkValues.{LinkValues}
use Rattle.ppp_option_words.specs.ConfigValues.{ConfigValues}
use Rattle.ppp_options.specs.Meaning.{meant}
use Rattle.ppp_option_words.specs.Picks.{text_in}
use Rattle.ppp_option_words.specs.Results.{ok_map, ok_then}
use Rattle.ppp_options.specs.Scopes.{links_read, scopes_of}
use Rattle.ppp_option_words.specs.Table.{included_spelled, valued_spelled}
use Rattle.ppp_option_words.specs.declared.fault.OptionsFault.{OptionsFault}
use Rattle.ppp_option_words.specs.declared.fault.OptionsFault.TheVariants.{Missing}
use Rattle.ppp_options.specs.declared.given.Awaits.{Awaits}
use Rattle.ppp_options.specs.declared.given.Awaits.TheVariants.{Nothing, Value, FileName}
use Rattle.ppp_option_words.specs.declared.item.Item.{Item}
use Rattle.ppp_option_words.specs.declared.number.Number.TheVariants as number
use Rattle.ppp_option_words.specs.declared.text.Text.{Text}
use Rattle.ppp_option_words.specs.declared.text.Text.TheVariants as text

-- the path of the last word, or this one
abbrev pub path_or : Text → List ℕ → List Item → List ℕ
path_or word default items = unwrap_or (last_of (text_in word) items) default

abbrev pub hooks_of : List Item → HookPaths
hooks_of items = record {
  ip_up = path_or text.HookIpUp (codes "/etc/ppp/ip-up") items;
  ip_down = path_or text.HookIpDown (codes "/etc/ppp/ip-down") items;
  auth_up = path_or text.HookAuthUp (codes "/etc/ppp/auth-up") items;
  auth_down = path_or text.HookAuthDown (codes "/etc/ppp/auth-down") items;
}

-- Options of the whole run: the last word counts, wherever it stands.
abbrev pub config_with : List Item → List LinkValues → ConfigValues
config_with items links = record {
  links = links;
  control = last_of (text_in text.Control) items;
  packets = last_of (text_in text.Packets) items;
  pap_file = last_of (text_in text.PapSecrets) items;
  chap_file = last_of (text_in text.ChapSecrets) items;
  hooks = hooks_of items;
  loglimit = number_of number.Loglimit items;
}

-- what all words say, or the fault of the least link that has one
abbrev pub items_read : List Item → Result ConfigValues OptionsFault
items_read items = ok_map (config_with items) (links_read (scopes_of items))

-- Where the words end before a value, it is missing.
abbrev pub ended : Awaits → List Item → Result ConfigValues OptionsFault
ended Nothing items = items_read items
ended (Value valued) items = Err (Missing (valued_spelled valued))
ended (FileName included) items = Err (Missing (included_spelled included))

abbrev pub at_ending : Ending → List Item → Result ConfigValues OptionsFault
at_ending (Open awaits) items = ended awaits items
at_ending (Broken fault) items = Err fault

-- the first faulty word's fault, or what comes behind all words
abbrev pub course_read : List NamedFile → Course → Result ConfigValues OptionsFault
course_read files course = ok_then (meant files 0 course.entries) (at_ending course.ending)

-- What option words are: a configuration, or a fault. Files may be nested 8 deep.
abbrev pub ReadOf : List (List ℕ) → List NamedFile → Result ConfigValues OptionsFault
ReadOf words files = course_read files (in_place files 8 Nothing words)
