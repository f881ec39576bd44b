-- What a piece of a stream leaves and is answered, taken together.
use Rattle.std.specs.Prelude.{◌≡◌, ◌≢◌, ℕ, ◌+◌, ◌-◌, ◌<◌, ◌≤◌, List, length, take, drop, fold, slice_index}
use Rattle.ppp_hdlc.specs.declared.heard.Heard.{Heard}
use Rattle.ppp_hdlc.specs.declared.heard.Heard.TheVariants.{Nothing}
use Rattle.ppp_hdlc.specs.Deframing.{Deframing, fed, heard_at}

-- what these octets leave, one after another
unfoldable pub fed_all : List ℕ → Deframing → Deframing
fed_all octets d = fold (λ d octet. fed octet d) d octets

-- what the octet with this index is answered, behind those before it
abbrev pub heard_in : List ℕ → Deframing → ℕ → Heard
heard_in octets d index = heard_at (slice_index octets index) (fed_all (take index octets) d)

-- The octets from one place up to another were taken, and none of them is a flag.
pub record Takes (octets : List ℕ) (from to : ℕ) (old new : Deframing) : Type 0 where
  pub forward : from ≤ to
  pub within : to ≤ length octets
  pub fed : new ≡ fed_all (take (to - from) (drop from octets)) old
  pub no_flag : (index : ℕ) → from ≤ index → index < to → slice_index octets index ≢ 0x7e

-- So many octets are up to and with the first one that is answered otherwise than by Nothing, or else all, and
-- the answer is that of the last of them.
pub record IsSpan (octets : List ℕ) (d : Deframing) (used : ℕ) (heard : Heard) : Type 0 where
  pub within : used ≤ length octets
  pub before : (index : ℕ) → index + 1 < used → heard_in octets d index ≡ Nothing
  pub last : (index : ℕ) → index + 1 ≡ used → heard_in octets d index ≡ heard
  pub none : used ≡ 0 → heard ≡ Nothing
  pub all : heard ≡ Nothing → used ≡ length octets
