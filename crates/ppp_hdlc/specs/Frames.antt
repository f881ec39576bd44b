-- The answers that a stream of octets gives (RFC 1662, 3 and 4), over the whole stream.
use Rattle.std.specs.Prelude.{ℕ, ◌+◌, ◌-◌, ◌*◌, ◌%◌, ◌==◌, nat_lt, nat_eq, Bool, false, not, if◌then◌else◌, List, [], ◌∷◌, length, map, filter, flat_map, find, take, drop, Option, Some, None, is_none, bit_xor}
use Rattle.std.specs.List.{slice_split, starts_with}
use Rattle.ppp_base.specs.declared.octets.TheConstants.{MOST_FRAME}
use Rattle.ppp_hdlc.specs.Octets.{is_flag, is_escape, is_mapped}
use Rattle.ppp_hdlc.specs.Residue.{Residue, good_residue}
use Rattle.ppp_hdlc.specs.declared.fault.FrameFault.{FrameFault}
use Rattle.ppp_hdlc.specs.declared.fault.FrameFault.TheVariants.{Aborted, TooLong, Short, BadFcs, BadHeader}
use Rattle.ppp_hdlc.specs.declared.heard.Heard.{Heard}
use Rattle.ppp_hdlc.specs.declared.heard.Heard.TheVariants.{Nothing, Frame, Dropped}

-- an octet that came, and the receiving map in force at it
abbrev pub Received : Type 0
Received = ℕ × ℕ

-- whether the octet is no part of what was sent: the map in force has its bit set (RFC 1662, 4.2)
abbrev pub is_removed : Received → Bool
is_removed received = is_mapped received.1 received.0

-- the octets that are left when those are removed
abbrev pub kept_octets : List Received → List ℕ
kept_octets stream = map (λ received. received.0) (filter (λ received. not (is_removed received)) stream)

-- The list is split at each flag. All parts but the last have a flag behind them.
abbrev pub closed_parts : List (List ℕ) → List (List ℕ)
closed_parts [] = []
closed_parts (part ∷ []) = []
closed_parts (part ∷ next ∷ parts) = part ∷ closed_parts (next ∷ parts)

-- From the left, each escape is left out, and the octet behind it is XORed with 20 (hexadecimal)
-- (RFC 1662, 4.2).
unfoldable pub unescaped : List ℕ → List ℕ
unescaped [] = []
unescaped (octet ∷ []) = if is_escape octet then [] else octet ∷ []
unescaped (octet ∷ next ∷ octets) = if is_escape octet then bit_xor next 32 ∷ unescaped octets else octet ∷ unescaped (next ∷ octets)

-- whether the last octet is an escape that nothing follows
unfoldable pub ends_escaping : List ℕ → Bool
ends_escaping [] = false
ends_escaping (octet ∷ []) = is_escape octet
ends_escaping (octet ∷ next ∷ octets) = if is_escape octet then ends_escaping octets else ends_escaping (next ∷ octets)

abbrev pub without_fcs : List ℕ → List ℕ
without_fcs octets = take (length octets - 2) octets

-- Address and control may be missing (RFC 1662, 3.2).
abbrev pub without_address : List ℕ → List ℕ
without_address octets = if starts_with nat_eq octets (0xff ∷ 0x03 ∷ []) then drop 2 octets else octets

-- The protocol, and the information behind it: one odd octet, or an even octet and then an odd one
-- (RFC 1661, 2 and 6.5); one octet ff is none (RFC 1661, 6.6).
abbrev pub behind_even : ℕ → List ℕ → Option (ℕ × List ℕ)
behind_even first [] = None
behind_even first (second ∷ information) = if second % 2 == 1 then Some (first * 256 + second, information) else None

abbrev pub protocol_of : List ℕ → Option (ℕ × List ℕ)
protocol_of [] = None
protocol_of (first ∷ octets) = if first == 0xff then None else (if first % 2 == 1 then Some (first, octets) else behind_even first octets)

abbrev pub content : List ℕ → Option (ℕ × List ℕ)
content octets = protocol_of (without_address (without_fcs octets))

-- whether a part is dropped for this reason (RFC 1662, 4.2 and 4.3)
abbrev pub applies : List ℕ → FrameFault → Bool
applies part Aborted = ends_escaping part
applies part TooLong = nat_lt MOST_FRAME (length (unescaped part))
applies part Short = nat_lt (length (unescaped part)) 4
applies part BadFcs = not (Residue (unescaped part) == good_residue)
applies part BadHeader = is_none (content (unescaped part))

-- the reasons, in the order in which they are tested
abbrev pub reasons : List FrameFault
reasons = Aborted ∷ TooLong ∷ Short ∷ BadFcs ∷ BadHeader ∷ []

abbrev pub framed : Option (ℕ × List ℕ) → Heard
framed None = Dropped BadHeader
framed (Some found) = Frame found.0 found.1

abbrev pub dropped_or : Option FrameFault → Heard → Heard
dropped_or None heard = heard
dropped_or (Some reason) heard = Dropped reason

-- The answer at the flag behind a part: nothing for an empty one, else the first reason that applies,
-- else the frame.
unfoldable pub answer : List ℕ → Heard
answer [] = Nothing
answer (octet ∷ octets) = dropped_or (find (applies (octet ∷ octets)) reasons) (framed (content (unescaped (octet ∷ octets))))

-- one answer for each flag of the stream
unfoldable pub Frames : List Received → List Heard
Frames stream = map answer (closed_parts (slice_split is_flag (kept_octets stream)))

-- an answer, or none where there is nothing
abbrev pub told_of : Heard → List Heard
told_of Nothing = []
told_of (Frame protocol information) = Frame protocol information ∷ []
told_of (Dropped reason) = Dropped reason ∷ []

-- the answers of the stream that tell something
unfoldable pub told : List Received → List Heard
told stream = flat_map told_of (Frames stream)

-- octets that all come under one map
abbrev pub stamped : ℕ → List ℕ → List Received
stamped receiving octets = map (λ octet. (octet, receiving)) octets
