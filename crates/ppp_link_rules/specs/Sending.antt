-- What is sent on the line: a frame is written by what is agreed on, in Opened alone, and else by the defaults of RFC 1662. It waits in the ring whole.
use Rattle.std.specs.Prelude.{ℕ, false, Option, None, Some, List, [], ◌∷◌}
use Rattle.ppp_base.specs.declared.protocol.TheConstants.{LCP}
use Rattle.ppp_base.specs.declared.send_settings.SendSettings.{SendSettings}
use Rattle.ppp_base.specs.declared.send_settings.TheConstants.{DEFAULT_MAP}
use Rattle.ppp_packet.specs.declared.agreed.Agreed.{Agreed}
use Rattle.ppp_packet.specs.declared.packet.Packet.{Packet}
use Rattle.ppp_packet.specs.PacketOf.{laid_packet}
use Rattle.ppp_hdlc.specs.Encoding.{encoding}
use Rattle.ppp_auth.specs.declared.out.PhasePacket.{PhasePacket}
use Rattle.ppp_link_rules.specs.LinkState.{LinkState, agreed}
use Rattle.ppp_link_rules.specs.Rings.{put_out}

abbrev pub plain_settings : SendSettings
plain_settings = record { map = DEFAULT_MAP; pfc = false; acfc = false }

abbrev pub settings_by : Option Agreed → SendSettings
settings_by None = plain_settings
settings_by (Some agreed) = agreed.send

-- the receiving map, likewise
abbrev pub map_by : Option Agreed → ℕ
map_by None = DEFAULT_MAP
map_by (Some agreed) = agreed.receive_map

-- octets as they are: what a chat script sends
abbrev pub octets_sent : List ℕ → LinkState → LinkState
octets_sent octets s = record s { out = put_out octets s.out }

-- a frame
unfoldable pub frame_sent : ℕ → List ℕ → LinkState → LinkState
frame_sent protocol information s = octets_sent (encoding (settings_by (agreed s)) protocol information) s

-- packets of LCP, in order
abbrev pub packets_sent : List Packet → LinkState → LinkState
packets_sent [] s = s
packets_sent (packet ∷ packets) s = packets_sent packets (frame_sent LCP (laid_packet packet) s)

-- packets of authentication, in order
abbrev pub phase_sent : List PhasePacket → LinkState → LinkState
phase_sent [] s = s
phase_sent (p ∷ packets) s = phase_sent packets (frame_sent p.protocol (laid_packet p.packet) s)
