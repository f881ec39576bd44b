-- When a frame that was written is heard as it was, whatever came before.
use Rattle.std.specs.Prelude.{◌≡◌, ◌≢◌, ℕ, ◌/◌, ◌%◌, ◌<◌, ◌≤◌, List, length, map}
use Rattle.std.specs.List.{AllByRecursion}
use Rattle.std.specs.Int.{bit_at}
use Rattle.ppp_base.specs.declared.octets.TheConstants.{MOST_FRAME}
use Rattle.ppp_base.specs.declared.send_settings.SendSettings.{SendSettings}
use Rattle.ppp_hdlc.specs.Frames.{Received}
use Rattle.ppp_hdlc.specs.Encoding.{encoding, settings_for, with_fcs, body}

-- a protocol whose octets can be told from what may stand before them (RFC 1661, 2 and 6.6)
pub record IsFramable (protocol : ℕ) : Type 0 where
  pub first_is_even : protocol / 256 % 2 ≡ 0
  pub second_is_odd : protocol % 256 % 2 ≡ 1
  pub is_other : protocol ≢ 0xff

-- The receiving map has no bit that the sending map lacks.
abbrev pub IsWithin : ℕ → ℕ → Type 0
IsWithin receiving sending = (bit : ℕ) → bit < 32 → bit_at receiving bit ≡ 1 → bit_at sending bit ≡ 1

-- the octets with the FCS, before they are escaped
abbrev pub framed_length : SendSettings → ℕ → List ℕ → ℕ
framed_length settings protocol information = length (with_fcs (body (settings_for settings protocol information) protocol information))

-- These octets are the frame, each under such a map.
pub record Arrives (settings : SendSettings) (protocol : ℕ) (information : List ℕ) (sent : List Received) : Type 0 where
  pub is_framable : IsFramable protocol
  pub is_long : 4 ≤ framed_length settings protocol information
  pub is_short : framed_length settings protocol information ≤ MOST_FRAME
  pub octets_are : map (λ received. received.0) sent ≡ encoding settings protocol information
  pub maps_are : AllByRecursion (λ received. IsWithin received.1 (settings_for settings protocol information).map) sent
