-- How a frame is written (RFC 1662, 3 and 4; RFC 1661, 5, 6.5 and 6.6).
use Rattle.std.specs.Prelude.{ℕ, ◌/◌, ◌%◌, ◌==◌, ◌&&◌, ◌||◌, nat_lt, Bool, false, not, if◌then◌else◌, List, [], ◌∷◌, ◌++◌, flat_map, bit_xor}
use Rattle.ppp_base.specs.declared.protocol.TheConstants.{LCP}
use Rattle.ppp_base.specs.declared.send_settings.SendSettings.{SendSettings}
use Rattle.ppp_hdlc.specs.Octets.{is_flag, is_escape, is_mapped}
use Rattle.ppp_hdlc.specs.Residue.{fcs_of}

-- LCP's packets of the codes 1 to 7 are written in the plain way, whatever was agreed (RFC 1661, 5).
abbrev pub has_basic_code : List ℕ → Bool
has_basic_code [] = false
has_basic_code (code ∷ octets) = nat_lt 0 code && nat_lt code 8

abbrev pub plain : SendSettings
plain = record { map = 0xffff_ffff; pfc = false; acfc = false }

-- the settings that count for this frame
abbrev pub settings_for : SendSettings → ℕ → List ℕ → SendSettings
settings_for settings protocol information = if protocol == LCP && has_basic_code information then plain else settings

abbrev pub address : SendSettings → ℕ → List ℕ
address settings protocol = if settings.acfc && not (protocol == LCP) then [] else 0xff ∷ 0x03 ∷ []

abbrev pub protocol_field : SendSettings → ℕ → List ℕ
protocol_field settings protocol = if settings.pfc && nat_lt protocol 0x100 then protocol ∷ [] else protocol / 256 ∷ protocol % 256 ∷ []

-- the octets that the frame check sequence is of
unfoldable pub body : SendSettings → ℕ → List ℕ → List ℕ
body settings protocol information = (address settings protocol ++ protocol_field settings protocol) ++ information

-- the frame check sequence as it is sent, the low octet first
unfoldable pub fcs_octets : List ℕ → List ℕ
fcs_octets octets = fcs_of octets % 256 ∷ fcs_of octets / 256 ∷ []

unfoldable pub with_fcs : List ℕ → List ℕ
with_fcs octets = octets ++ fcs_octets octets

-- The escape, the flag, and each octet below 32 whose bit is set in the map are escaped.
abbrev pub is_escaped : ℕ → ℕ → Bool
is_escaped map octet = is_escape octet || is_flag octet || is_mapped map octet

abbrev pub escape : ℕ → ℕ → List ℕ
escape map octet = if is_escaped map octet then 0x7d ∷ bit_xor octet 32 ∷ [] else octet ∷ []

unfoldable pub escaped : ℕ → List ℕ → List ℕ
escaped map octets = flat_map (escape map) octets

unfoldable pub flagged : ℕ → List ℕ → List ℕ
flagged map octets = 0x7e ∷ escaped map octets ++ 0x7e ∷ []

unfoldable pub enclosed : SendSettings → ℕ → List ℕ → List ℕ
enclosed settings protocol information = flagged settings.map (with_fcs (body settings protocol information))

-- the octets that are sent
abbrev pub encoding : SendSettings → ℕ → List ℕ → List ℕ
encoding settings protocol information = enclosed (settings_for settings protocol information) protocol information
