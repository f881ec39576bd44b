-- What a value says behind its word, and a word without one (pppd(8), "Options").
use Rattle.std.specs.Prelude.{ℕ, ◌+◌, ◌==◌, ◌&&◌, ◌||◌, not, nat_le, Bool, true, false, if◌then◌else◌, List, [], ◌∷◌, length, Option, Some, None, option_map, unwrap_or, Result, Ok, Err}
use Rattle.std.specs.List.{list_all, slice_split}
use Rattle.ppp_base.specs.Hex.{hex_number_of}
use Rattle.ppp_base.specs.Numbers.{address_of, is_digit, number_of}
use Rattle.ppp_base.specs.declared.numbers.LeadingZeros.TheVariants.{Lawful}
use Rattle.ppp_option_words.specs.Table.{least_of, most_of}
use Rattle.ppp_option_words.specs.declared.fault.OptionsFault.{OptionsFault}
use Rattle.ppp_option_words.specs.declared.fault.OptionsFault.TheVariants.{Unknown, BadNumber, OutOfRange}
use Rattle.ppp_option_words.specs.declared.item.Item.{Item}
use Rattle.ppp_option_words.specs.declared.item.Item.TheVariants as item
use Rattle.ppp_option_words.specs.declared.kind.Kind.{Kind}
use Rattle.ppp_option_words.specs.declared.kind.Kind.TheVariants as kind
use Rattle.ppp_option_words.specs.declared.number.Number.{Number}
use Rattle.ppp_option_words.specs.declared.text.Text.{Text}

-- A number: at most 10 digits, whatever they spell, and then within the word's range.
abbrev pub in_range : Number → List ℕ → Option ℕ → Result Item OptionsFault
in_range word value None = Err (BadNumber value)
in_range word value (Some n) =
    if nat_le (least_of word) n && nat_le n (most_of word) then Ok (item.Number (record { word = word; number = n })) else Err (OutOfRange value)

abbrev pub number_item : Number → List ℕ → Result Item OptionsFault
number_item word value = in_range word value (number_of Lawful 0 9999999999 value)

-- a text of at most 255 octets
abbrev pub text_item : Text → List ℕ → Result Item OptionsFault
text_item word value = if nat_le (length value) 255 then Ok (item.Text word value) else Err (OutOfRange value)

-- a command of at most 512 octets
abbrev pub pty_item : List ℕ → Result Item OptionsFault
pty_item value = if nat_le (length value) 512 then Ok (item.Pty value) else Err (OutOfRange value)

-- 1 to 8 hexadecimal digits
abbrev pub asyncmap_at : List ℕ → Option ℕ → Result Item OptionsFault
asyncmap_at value None = Err (BadNumber value)
asyncmap_at value (Some map) = Ok (item.Asyncmap map)

abbrev pub asyncmap_item : List ℕ → Result Item OptionsFault
asyncmap_item value = asyncmap_at value (hex_number_of value)

abbrev pub with_octet : Option ℕ → Option (List ℕ) → Option (List ℕ)
with_octet None octets = None
with_octet (Some octet) None = None
with_octet (Some octet) (Some octets) = Some (octet ∷ octets)

-- the octets that pairs of hexadecimal digits are
abbrev pub pairs_behind : Option ℕ → List ℕ → Option (List ℕ)
pairs_behind None [] = Some []
pairs_behind (Some high) [] = None
pairs_behind None (digit ∷ digits) = pairs_behind (Some digit) digits
pairs_behind (Some high) (digit ∷ digits) = with_octet (hex_number_of (high ∷ digit ∷ [])) (pairs_behind None digits)

abbrev pub pairs_of : List ℕ → Option (List ℕ)
pairs_of digits = pairs_behind None digits

-- a discriminator of class 1 with 1 to 20 octets
abbrev pub endpoint_at : List ℕ → Option (List ℕ) → Result Item OptionsFault
endpoint_at value None = Err (BadNumber value)
endpoint_at value (Some octets) =
    if nat_le 1 (length octets) && nat_le (length octets) 20 then Ok (item.Endpoint (record { class = 1; address = octets })) else Err (OutOfRange value)

abbrev pub endpoint_item : List ℕ → Result Item OptionsFault
endpoint_item value = endpoint_at value (pairs_of value)

-- An address of `A:B`, or nothing. None where it is neither.
abbrev pub side_of : List ℕ → Option (Option (List ℕ))
side_of [] = Some None
side_of (octet ∷ octets) = option_map (λ (address : List ℕ). Some address) (address_of (octet ∷ octets))

-- both sides: our address is 0.0.0.0 where it is left out
abbrev pub both_sides : Option (Option (List ℕ)) → Option (Option (List ℕ)) → Option Item
both_sides None theirs = None
both_sides (Some ours) None = None
both_sides (Some None) (Some None) = None
both_sides (Some None) (Some (Some theirs)) = Some (item.Addresses (0 ∷ 0 ∷ 0 ∷ 0 ∷ []) (Some theirs))
both_sides (Some (Some ours)) (Some theirs) = Some (item.Addresses ours theirs)

abbrev pub sides_of : List (List ℕ) → Option Item
sides_of [] = None
sides_of (ours ∷ []) = None
sides_of (ours ∷ theirs ∷ []) = both_sides (side_of ours) (side_of theirs)
sides_of (ours ∷ theirs ∷ more ∷ others) = None

-- `A:B`, if the word is it
unfoldable pub addresses_of : List ℕ → Option Item
addresses_of word = sides_of (slice_split (λ octet. octet == 58) word)

-- a speed: digits alone
abbrev pub is_speed : List ℕ → Bool
is_speed word = if length word == 0 then false else list_all is_digit word

abbrev pub addresses_or_unknown : List ℕ → Option Item → Result Item OptionsFault
addresses_or_unknown word None = Err (Unknown word)
addresses_or_unknown word (Some addresses) = Ok addresses

-- a word that isn't in the table
abbrev pub other_item : List ℕ → Result Item OptionsFault
other_item word = if is_speed word then Ok item.Ignored else addresses_or_unknown word (addresses_of word)
