-- The escapes of a word, or of a part of one (chat(8), "Escape sequences").
use Rattle.std.specs.Prelude.{ℕ, ◌+◌, ◌-◌, ◌*◌, zero, suc, nat_le, ◌==◌, Bool, ◌&&◌, ◌||◌, if◌then◌else◌, Option, None, Some, option_map, List, [], ◌∷◌, length, take, nat_eq, bit_and}
use Rattle.std.specs.Cmp.Lexicographic.{pointwise}
use Rattle.std.specs.List.{filter_map, find, take_while}
use Rattle.ppp_chat.specs.declared.piece.Piece.{Piece}
use Rattle.ppp_chat.specs.declared.piece.Piece.TheVariants.{Octet, Delay, NoReturn, Nothing}
use Rattle.ppp_chat.specs.declared.piece.Spelled.{Spelled}

-- what a backslash and one octet stand for; digits of base 8 stand below
abbrev pub escapes : List (ℕ × Piece)
escapes =
    (98, Octet 0x08)  -- \b  backspace
    ∷ (110, Octet 0x0a)  -- \n  newline
    ∷ (114, Octet 0x0d)  -- \r  return
    ∷ (115, Octet 0x20)  -- \s  space
    ∷ (116, Octet 0x09)  -- \t  tab
    ∷ (92, Octet 0x5c)  -- \\  a backslash
    ∷ (78, Octet 0x00)  -- \N  the octet 00
    ∷ (100, Delay 1000)  -- \d  a delay of 1,000 ms
    ∷ (112, Delay 100)  -- \p  a delay of 100 ms
    ∷ (99, NoReturn)  -- \c  no return, at the end of a send
    ∷ (113, Nothing)  -- \q  nothing
    ∷ []

-- a piece that an octet more, behind the first, spells
abbrev pub two : Piece → Spelled
two piece = record { piece = piece; more = 1 }

abbrev pub is_octal : ℕ → Bool
is_octal octet = nat_le 48 octet && nat_le octet 55

-- the digits that stand here, up to three
abbrev pub octal_digits : List ℕ → List ℕ
octal_digits octets = take_while is_octal (take 3 octets)

-- the number of digits of base 8, behind a number
abbrev pub octal_from : ℕ → List ℕ → ℕ
octal_from number [] = number
octal_from number (digit ∷ digits) = octal_from (number * 8 + (digit - 48)) digits

-- \ddd: an octet, up to 377
abbrev pub octal_spelled : List ℕ → Option Spelled
octal_spelled digits = if nat_le (octal_from 0 digits) 0xff then Some (record { piece = Octet (octal_from 0 digits); more = length digits }) else None

-- what a backslash and these octets behind it begin with
abbrev pub behind_backslash : List ℕ → Option Spelled
behind_backslash [] = None
behind_backslash (octet ∷ octets) =
    if is_octal octet then octal_spelled (octal_digits (octet ∷ octets))
    else option_map (λ (row : ℕ × Piece). two row.1) (find (λ (row : ℕ × Piece). row.0 == octet) escapes)

-- a letter or one of @ [ \ ] ^ _
abbrev pub is_control : ℕ → Bool
is_control octet = (nat_le 64 octet && nat_le octet 95) || (nat_le 97 octet && nat_le octet 122)

-- ^C: its code and 1f
abbrev pub behind_caret : List ℕ → Option Spelled
behind_caret [] = None
behind_caret (octet ∷ octets) = if is_control octet then Some (two (Octet (bit_and octet 0x1f))) else None

-- The piece that stands first, and how many octets behind the first spell it.
abbrev pub first_piece : ℕ → List ℕ → Option Spelled
first_piece octet octets =
    if octet == 92 then behind_backslash octets
    else if octet == 94 then behind_caret octets
    else Some (record { piece = Octet octet; more = 0 })

abbrev pub with_piece : Piece → Option (List Piece) → Option (List Piece)
with_piece piece pieces = option_map (λ (behind : List Piece). piece ∷ behind) pieces

abbrev pub before_pieces : Option Spelled → (ℕ → Option (List Piece)) → Option (List Piece)
before_pieces None rest = None
before_pieces (Some spelled) rest = with_piece spelled.piece (rest spelled.more)

-- The pieces from left to right, where so many octets more spell the piece before. None where an escape is bad.
abbrev pub pieces_behind : ℕ → List ℕ → Option (List Piece)
pieces_behind more [] = Some []
pieces_behind zero (octet ∷ octets) = before_pieces (first_piece octet octets) (λ (more : ℕ). pieces_behind more octets)
pieces_behind (suc more) (octet ∷ octets) = pieces_behind more octets

-- Two quote marks as the whole are empty.
abbrev pub unquoted : List ℕ → List ℕ
unquoted part = if pointwise nat_eq part (39 ∷ 39 ∷ []) || pointwise nat_eq part (34 ∷ 34 ∷ []) then [] else part

abbrev pub pieces_of : List ℕ → Option (List Piece)
pieces_of part = pieces_behind 0 (unquoted part)

abbrev pub octet_of : Piece → Option ℕ
octet_of (Octet octet) = Some octet
octet_of (Delay milliseconds) = None
octet_of NoReturn = None
octet_of Nothing = None

-- The octets of pieces. In an expect nothing else counts.
abbrev pub text_of : List Piece → List ℕ
text_of pieces = filter_map octet_of pieces
