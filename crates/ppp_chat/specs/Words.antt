-- What the words of a script stand for (chat(8), "Chat script").
use Rattle.std.specs.Prelude.{ℕ, ◌+◌, ◌-◌, nat_le, nat_eq, ◌==◌, Bool, if◌then◌else◌, Option, None, Some, Result, Ok, Err, List, [], ◌∷◌, ◌++◌, length, map, slice_get, codes}
use Rattle.std.specs.Cmp.Lexicographic.{pointwise}
use Rattle.std.specs.List.{find, slice_split}
use Rattle.ppp_base.specs.Numbers.{number_of}
use Rattle.ppp_base.specs.declared.numbers.LeadingZeros.TheVariants.{Lawful}
use Rattle.ppp_chat.specs.Pieces.{pieces_of, text_of}
use Rattle.ppp_chat.specs.Script.{SendPart, Octets, Delay, Instead, Expected, Item, Directs, Pair, directives_of}
use Rattle.ppp_chat.specs.Settings.{aborts_of}
use Rattle.ppp_chat.specs.declared.directive.Directive.{Directive}
use Rattle.ppp_chat.specs.declared.directive.Directive.TheVariants.{Abort, ClearAbort, Timeout}
use Rattle.ppp_chat.specs.declared.fault.ScriptFault.{ScriptFault}
use Rattle.ppp_chat.specs.declared.fault.ScriptFault.TheVariants.{BadEscape, BadNumber, TooManyAborts, TooLong}
use Rattle.ppp_chat.specs.declared.keyword.Keyword.{Keyword}
use Rattle.ppp_chat.specs.declared.keyword.Keyword.TheVariants.{Abort as SetsAbort, ClearAbort as ClearsAbort, Timeout as SetsTimeout}
use Rattle.ppp_chat.specs.declared.piece.Piece.{Piece}
use Rattle.ppp_chat.specs.declared.piece.Piece.TheVariants.{Octet, Delay as Pauses, NoReturn, Nothing}

-- Words, or parts of one, two by two. The last one may stand alone.
abbrev pub in_twos_behind : {X : Type 0} → Option X → List X → List (X × Option X)
in_twos_behind None [] = []
in_twos_behind (Some first) [] = (first, None) ∷ []
in_twos_behind None (x ∷ xs) = in_twos_behind (Some x) xs
in_twos_behind (Some first) (x ∷ xs) = (first, Some x) ∷ in_twos_behind None xs

abbrev pub in_twos : {X : Type 0} → List X → List (X × Option X)
in_twos xs = in_twos_behind None xs

-- SENDS

-- the return behind a send, unless its last piece is \c
abbrev pub return_behind : Option Piece → List ℕ
return_behind (Some NoReturn) = []
return_behind other = 13 ∷ []

-- the octets up to each delay, the delay, and the octets behind the last one with the return; these octets stand before the pieces
abbrev pub parts_behind : List ℕ → List ℕ → List Piece → List SendPart
parts_behind octets return [] = Octets (octets ++ return) ∷ []
parts_behind octets return (Octet octet ∷ pieces) = parts_behind (octets ++ octet ∷ []) return pieces
parts_behind octets return (Pauses milliseconds ∷ pieces) = Octets octets ∷ Delay milliseconds ∷ parts_behind [] return pieces
parts_behind octets return (NoReturn ∷ pieces) = parts_behind octets return pieces
parts_behind octets return (Nothing ∷ pieces) = parts_behind octets return pieces

abbrev pub send_of : List Piece → List SendPart
send_of pieces = parts_behind [] (return_behind (slice_get pieces (length pieces - 1))) pieces

-- EXPECTS

-- a hyphen
abbrev pub is_hyphen : ℕ → Bool
is_hyphen octet = octet == 45

abbrev pub with_part : Option (List Piece) → Option (List (List Piece)) → Option (List (List Piece))
with_part None parts = None
with_part (Some part) None = None
with_part (Some part) (Some parts) = Some (part ∷ parts)

-- the pieces of each part, if no escape is bad
abbrev pub all_pieces : List (List ℕ) → Option (List (List Piece))
all_pieces [] = Some []
all_pieces (part ∷ parts) = with_part (pieces_of part) (all_pieces parts)

-- the string of a part, or an empty one where the part is missing
abbrev pub text_or_empty : Option (List Piece) → List ℕ
text_or_empty None = []
text_or_empty (Some part) = text_of part

-- two parts: what is sent, and what is expected then
abbrev pub instead_of : List Piece × Option (List Piece) → Instead
instead_of two = record { send = send_of two.0; text = text_or_empty two.1 }

-- A word that is expected, from its parts: a string, and then two by two.
abbrev pub expected_of : List (List Piece) → Expected
expected_of [] = record { text = []; instead = [] }
expected_of (part ∷ parts) = record { text = text_of part; instead = map instead_of (in_twos parts) }

-- the octets of the parts, with a hyphen behind each
abbrev pub with_hyphens : List (List Piece) → ℕ
with_hyphens [] = 0
with_hyphens (part ∷ parts) = length (text_of part) + 1 + with_hyphens parts

-- A word is not too long: its parts and the hyphens between them have at most 512 octets.
abbrev pub fits : List (List Piece) → Bool
fits parts = nat_le (with_hyphens parts) 513

-- DIRECTIVES

-- the word that is a directive's name
abbrev pub name_of : Keyword → List ℕ
name_of SetsAbort = codes "ABORT"
name_of ClearsAbort = codes "CLR_ABORT"
name_of SetsTimeout = codes "TIMEOUT"

-- the directive that a word names, if it does
abbrev pub keyword_of : List ℕ → Option Keyword
keyword_of word = find (λ (keyword : Keyword). pointwise nat_eq (name_of keyword) word) (SetsAbort ∷ ClearsAbort ∷ SetsTimeout ∷ [])

-- the seconds of TIMEOUT, from 1 to 65535; zeros may stand before them, up to 10 digits in all
abbrev pub seconds_of : List ℕ → Option ℕ
seconds_of word = number_of Lawful 1 65535 word

-- The faults of a word are looked for in this order: a bad escape, a bad number, too many abort strings, too long. Words have numbers from 1 on.

abbrev pub expect_word : ℕ → Option (List (List Piece)) → Result Expected ScriptFault
expect_word number None = Err (BadEscape number)
expect_word number (Some parts) = if fits parts then Ok (expected_of parts) else Err (TooLong number)

abbrev pub send_word : ℕ → Option (List Piece) → Result (List SendPart) ScriptFault
send_word number None = Err (BadEscape number)
send_word number (Some pieces) = if fits (pieces ∷ []) then Ok (send_of pieces) else Err (TooLong number)

-- A fifty-first abort string at once is one too many.
abbrev pub abort_word : ℕ → List Directive → Option (List Piece) → Result Directive ScriptFault
abort_word number before None = Err (BadEscape number)
abort_word number before (Some pieces) =
    if nat_le 50 (length (aborts_of before)) then Err (TooManyAborts number)
    else if fits (pieces ∷ []) then Ok (Abort (text_of pieces)) else Err (TooLong number)

abbrev pub clear_word : ℕ → Option (List Piece) → Result Directive ScriptFault
clear_word number None = Err (BadEscape number)
clear_word number (Some pieces) = if fits (pieces ∷ []) then Ok (ClearAbort (text_of pieces)) else Err (TooLong number)

abbrev pub timeout_word : ℕ → Option ℕ → Result Directive ScriptFault
timeout_word number None = Err (BadNumber number)
timeout_word number (Some seconds) = Ok (Timeout seconds)

-- a directive with this word behind its name, and behind these directives
abbrev pub directive_word : ℕ → List Directive → Keyword → List ℕ → Result Directive ScriptFault
directive_word number before SetsAbort word = abort_word number before (pieces_of word)
directive_word number before ClearsAbort word = clear_word number (pieces_of word)
directive_word number before SetsTimeout word = timeout_word number (seconds_of word)

-- SCRIPTS

abbrev pub ok_map : {X Y : Type 0} → (X → Y) → Result X ScriptFault → Result Y ScriptFault
ok_map f (Ok x) = Ok (f x)
ok_map f (Err fault) = Err fault

abbrev pub ok_then : {X Y : Type 0} → Result X ScriptFault → (X → Result Y ScriptFault) → Result Y ScriptFault
ok_then (Ok x) rest = rest x
ok_then (Err fault) rest = Err fault

-- a pair, from its expect on; where the script's last send is missing, nothing is sent
abbrev pub pair_words : ℕ → Result Expected ScriptFault → Option (List ℕ) → Result (List Item) ScriptFault
pair_words number expected None = ok_map (λ (e : Expected). Pair e [] ∷ []) expected
pair_words number expected (Some word) =
    ok_then expected (λ (e : Expected). ok_map (λ (send : List SendPart). Pair e send ∷ []) (send_word (number + 1) (pieces_of word)))

-- A directive's name as a script's last word has no effect.
abbrev pub keyword_words : ℕ → List Directive → Keyword → Option (List ℕ) → Result (List Item) ScriptFault
keyword_words number before keyword None = Ok []
keyword_words number before keyword (Some word) = ok_map (λ (directive : Directive). Directs directive ∷ []) (directive_word (number + 1) before keyword word)

-- two words, of which the first has this number: a directive, or a pair
abbrev pub two_words : ℕ → List Directive → List ℕ → Option Keyword → Option (List ℕ) → Result (List Item) ScriptFault
two_words number before first (Some keyword) second = keyword_words number before keyword second
two_words number before first None second = pair_words number (expect_word number (all_pieces (slice_split is_hyphen first))) second

-- the items of words two by two, behind these directives, or the fault of the first word that has one
abbrev pub items_behind : ℕ → List Directive → List (List ℕ × Option (List ℕ)) → Result (List Item) ScriptFault
items_behind number before [] = Ok []
items_behind number before (two ∷ twos) =
    ok_then (two_words number before two.0 (keyword_of two.0) two.1)
    (λ (items : List Item). ok_map (λ (more : List Item). items ++ more) (items_behind (number + 2) (before ++ directives_of items) twos))

-- The items of a script: its words two by two.
abbrev pub script_of : List (List ℕ) → Result (List Item) ScriptFault
script_of words = items_behind 1 [] (in_twos words)

-- The word that a fault names.
abbrev pub word_of : ScriptFault → Option ℕ
word_of (BadEscape number) = Some number
word_of (BadNumber number) = Some number
word_of (TooManyAborts number) = Some number
word_of (TooLong number) = Some number
word_of other = None
