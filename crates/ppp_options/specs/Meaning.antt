-- What words say, each by the table.
use Rattle.std.specs.Prelude.{ℕ, ◌+◌, nat_le, if◌then◌else◌, List, [], ◌∷◌, Option, Some, None, Result, Ok, Err}
use Rattle.ppp_chat.specs.Script.{ChatScript}
use Rattle.ppp_outside.specs.Files.{NamedFile}
use Rattle.ppp_options.specs.Connect.{connect_read}
use Rattle.ppp_options.specs.InPlace.{Entry, Alone, Behind}
use Rattle.ppp_option_words.specs.Picks.{is_link}
use Rattle.ppp_option_words.specs.Results.{ok_map, ok_then}
use Rattle.ppp_option_words.specs.Table.{included_spelled, kind_of, valued_spelled}
use Rattle.ppp_option_words.specs.Values.{asyncmap_item, endpoint_item, number_item, other_item, pty_item, text_item}
use Rattle.ppp_option_words.specs.declared.fault.OptionsFault.{OptionsFault}
use Rattle.ppp_option_words.specs.declared.fault.OptionsFault.TheVariants.{Missing, TooMany}
use Rattle.ppp_option_words.specs.declared.item.Item.{Item}
use Rattle.ppp_option_words.specs.declared.item.Item.TheVariants as item
use Rattle.ppp_option_words.specs.declared.kind.Kind.{Kind}
use Rattle.ppp_option_words.specs.declared.kind.Kind.TheVariants as kind
use Rattle.ppp_option_words.specs.declared.kind.Valued.{Valued}
use Rattle.ppp_option_words.specs.declared.kind.Valued.TheVariants as valued

-- A word without a value. A word that has one never stands alone where `in_place` put the words.
abbrev pub word_item : List ℕ → Option Kind → Result Item OptionsFault
word_item word (Some kind.Link) = Ok item.Link
word_item word (Some (kind.Flag flag)) = Ok (item.Flag flag)
word_item word (Some (kind.Ignored ignored)) = Ok item.Ignored
word_item word (Some (kind.Included included)) = Err (Missing (included_spelled included))
word_item word (Some (kind.Valued valued)) = Err (Missing (valued_spelled valued))
word_item word None = other_item word

-- the value behind a word
abbrev pub value_item : List NamedFile → Valued → List ℕ → Result Item OptionsFault
value_item files (valued.Number word) value = number_item word value
value_item files (valued.Text word) value = text_item word value
value_item files valued.Pty value = pty_item value
value_item files valued.Connect value = ok_map (λ (script : ChatScript). item.Script script) (connect_read files value)
value_item files valued.Asyncmap value = asyncmap_item value
value_item files valued.Endpoint value = endpoint_item value

abbrev pub entry_item : List NamedFile → Entry → Result Item OptionsFault
entry_item files (Alone word) = word_item word (kind_of word)
entry_item files (Behind valued value) = value_item files valued value

-- the number of links behind an item
abbrev pub links_with : ℕ → Item → ℕ
links_with links said = if is_link said then links + 1 else links

-- The seventeenth `link` is one too many.
abbrev pub unless_many : ℕ → Item → Result Item OptionsFault
unless_many links said = if is_link said then (if nat_le 16 links then Err (TooMany 17) else Ok said) else Ok said

-- What words say in order, behind so many links, or the fault of the first that has one.
abbrev pub meant : List NamedFile → ℕ → List Entry → Result (List Item) OptionsFault
meant files links [] = Ok []
meant files links (entry ∷ entries) =
    ok_then (ok_then (entry_item files entry) (unless_many links))
    (λ (said : Item). ok_map (λ (items : List Item). said ∷ items) (meant files (links_with links said) entries))
