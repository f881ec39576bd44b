-- How a deframer stands for the stream that it was fed.
use Rattle.std.specs.Prelude.{◌≡◌, ℕ, ◌==◌, nat_lt, Bool, true, false, not, if◌then◌else◌, List, [], ◌∷◌, ◌++◌, length, take, bit_xor}
use Rattle.std.specs.List.{slice_split}
use Rattle.ppp_base.specs.declared.octets.TheConstants.{MOST_FRAME}
use Rattle.ppp_hdlc.specs.Frames.{Received, kept_octets, unescaped, ends_escaping, content, framed}
use Rattle.ppp_hdlc.specs.Octets.{is_flag, is_escape, is_mapped}
use Rattle.ppp_hdlc.specs.Residue.{Residue, good_residue}
use Rattle.ppp_hdlc.specs.declared.heard.Heard.{Heard}
use Rattle.ppp_hdlc.specs.declared.heard.Heard.TheVariants.{Nothing, Dropped}
use Rattle.ppp_hdlc.specs.declared.fault.FrameFault.TheVariants.{Aborted, TooLong, Short, BadFcs}

-- what a deframer keeps
pub record Deframing : Type 0 where
  -- the receiving map in force
  pub map : ℕ
  -- what has come since the last flag, unescaped, up to 1,508 octets
  pub octets : List ℕ
  -- whether more than that came
  pub is_over : Bool
  -- whether an escape waits for its octet
  pub is_escaping : Bool

-- a deframer at the beginning of a stream; its map is the default of RFC 1662, 7.1
abbrev pub fresh : Deframing
fresh = record { map = 0xffff_ffff; octets = []; is_over = false; is_escaping = false }

-- one that keeps these octets, and for which no escape waits
abbrev pub whole_part : ℕ → List ℕ → Bool → Deframing
whole_part map octets is_over = record { map = map; octets = octets; is_over = is_over; is_escaping = false }

-- the part that no flag has closed yet
abbrev pub open_part : List (List ℕ) → List ℕ
open_part [] = []
open_part (part ∷ []) = part
open_part (part ∷ next ∷ parts) = open_part (next ∷ parts)

-- what is kept of a part
pub record KeepsPart (octets : List ℕ) (is_over is_escaping : Bool) (part : List ℕ) : Type 0 where
  pub octets_are : octets ≡ take MOST_FRAME (unescaped part)
  pub over_is : is_over ≡ nat_lt MOST_FRAME (length (unescaped part))
  pub escaping_is : is_escaping ≡ ends_escaping part

-- The deframer stands for this stream: it keeps what counts of its open part.
abbrev pub StandsFor : Deframing → List Received → Type 0
StandsFor d stream = KeepsPart d.octets d.is_over d.is_escaping (open_part (slice_split is_flag (kept_octets stream)))

-- an octet of the part, kept while there is room
abbrev pub kept : ℕ → Deframing → Deframing
kept octet d = if length d.octets == MOST_FRAME then record d { is_over = true } else record d { octets = d.octets ++ octet ∷ [] }

-- an octet that is no flag: dropped by the map, or changed by the escape before it, or an escape, or kept
abbrev pub taken : ℕ → Deframing → Deframing
taken octet d =
    if is_mapped d.map octet then d
    else if d.is_escaping then kept (bit_xor octet 32) (record d { is_escaping = false })
    else if is_escape octet then record d { is_escaping = true }
    else kept octet d

-- What one octet leaves. A flag begins an empty part.
unfoldable pub fed : ℕ → Deframing → Deframing
fed octet d = if is_flag octet then record fresh { map = d.map } else taken octet d

-- what a flag ends, where these octets were kept
abbrev pub judged : List ℕ → Bool → Bool → Heard
judged octets is_over is_escaping =
    if is_escaping then Dropped Aborted
    else if is_over then Dropped TooLong
    else if length octets == 0 then Nothing
    else if nat_lt (length octets) 4 then Dropped Short
    else if not (Residue octets == good_residue) then Dropped BadFcs
    else framed (content octets)

-- what one octet is answered
unfoldable pub heard_at : ℕ → Deframing → Heard
heard_at octet d = if is_flag octet then judged d.octets d.is_over d.is_escaping else Nothing
