-- The octets that mean more than themselves in a text of words (pppd(8), "Options files"; chat(8), "Chat script").
use Rattle.std.specs.Prelude.{ℕ, ◌+◌, ◌==◌, ◌&&◌, ◌||◌, Bool, true, false, List, [], ◌∷◌, if◌then◌else◌, nat_le}

-- White space: a space, or an octet from 9 to 13 (tab, newline, vertical tab, form feed, return).
abbrev pub is_white : ℕ → Bool
is_white octet = (octet == 32) || (nat_le 9 octet && nat_le octet 13)

-- ' or "
abbrev pub is_quote : ℕ → Bool
is_quote octet = (octet == 39) || (octet == 34)

-- what stands by itself in a word and outside quotes: no white space, no quote and no backslash
abbrev pub is_plain : ℕ → Bool
is_plain octet = if is_white octet then false else if is_quote octet then false else if octet == 92 then false else true

-- The line after an octet: a newline ends a line.
abbrev pub line_after : ℕ → ℕ → ℕ
line_after line octet = if octet == 10 then line + 1 else line

-- The line after some octets.
abbrev pub line_behind : ℕ → List ℕ → ℕ
line_behind line [] = line
line_behind line (octet ∷ octets) = line_behind (line_after line octet) octets
