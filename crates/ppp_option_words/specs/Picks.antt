-- What one word says of an option.
use Rattle.std.specs.Prelude.{ℕ, Bool, true, false, if◌then◌else◌, List, [], ◌∷◌, Option, Some, None}
use Rattle.std.specs.List.{list_any}
use Rattle.ppp_base.specs.Disc.{Discriminator}
use Rattle.ppp_chat.specs.Script.{ChatScript}
use Rattle.ppp_outside.specs.declared.line_words.LineWords.{LineWords}
use Rattle.ppp_outside.specs.declared.line_words.LineWords.TheVariants.{Socket, Pty as Command}
use Rattle.ppp_option_words.specs.Same.{same_flag, same_number, same_text}
use Rattle.ppp_option_words.specs.declared.flag.Flag.{Flag}
use Rattle.ppp_option_words.specs.declared.number.Number.{Number as NumberWord}
use Rattle.ppp_option_words.specs.declared.text.Text.{Text as TextWord}
use Rattle.ppp_option_words.specs.declared.text.Text.TheVariants as text
use Rattle.ppp_option_words.specs.declared.item.Item.{Item}
use Rattle.ppp_option_words.specs.declared.item.Item.TheVariants as item

abbrev pub is_link : Item → Bool
is_link item.Link = true
is_link other = false

-- the number behind this word
abbrev pub number_in : NumberWord → Item → Option ℕ
number_in word (item.Number said) = if same_number said.word word then Some said.number else None
number_in word other = None

-- the text behind this word
abbrev pub text_in : TextWord → Item → Option (List ℕ)
text_in word (item.Text said value) = if same_text said word then Some value else None
text_in word other = None

abbrev pub is_one_of : List Flag → Flag → Bool
is_one_of flags said = list_any (λ (flag : Flag). same_flag flag said) flags

-- whether the word is one of those that switch something on, or one of those that switch it off
abbrev pub switch_in : List Flag → List Flag → Item → Option Bool
switch_in on off (item.Flag said) = if is_one_of on said then Some true else if is_one_of off said then Some false else None
switch_in on off other = None

-- the script of `connect`
abbrev pub script_in : Item → Option ChatScript
script_in (item.Script script) = Some script
script_in other = None

-- the line of `socket` or `pty`
abbrev pub line_in : Item → Option LineWords
line_in (item.Text said value) = if same_text said text.Socket then Some (Socket value) else None
line_in (item.Pty command) = Some (Command command)
line_in other = None

abbrev pub is_pty : Item → Bool
is_pty (item.Pty command) = true
is_pty other = false

abbrev pub is_socket : Item → Bool
is_socket (item.Text said value) = same_text said text.Socket
is_socket other = false

-- the octets of `asyncmap`, a bit for each
abbrev pub asyncmap_in : Item → ℕ
asyncmap_in (item.Asyncmap map) = map
asyncmap_in other = 0

abbrev pub endpoint_in : Item → Option Discriminator
endpoint_in (item.Endpoint disc) = Some disc
endpoint_in other = None

-- our address and the peer's of `A:B`
abbrev pub local_in : Item → Option (List ℕ)
local_in (item.Addresses local remote) = Some local
local_in other = None

abbrev pub remote_in : Item → Option (Option (List ℕ))
remote_in (item.Addresses local remote) = Some remote
remote_in other = None
