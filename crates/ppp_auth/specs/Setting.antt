-- What a phase of authentication is about, and its calls (RFC 1661, section 3.5).
use Rattle.std.specs.Prelude.{ℕ, ◌+◌, ◌==◌, ◌&&◌, ◌||◌, nat_le, Bool, false, Option, Some, None, is_some, List, [], ◌∷◌, if◌then◌else◌}
use Rattle.ppp_base.specs.declared.protocol.TheConstants.{PAP, CHAP}
use Rattle.ppp_packet.specs.declared.packet.Packet.{Packet}
use Rattle.ppp_packet.specs.declared.agreed.Method.{Method}
use Rattle.ppp_packet.specs.declared.agreed.Method.TheVariants.{Pap, Chap}
use Rattle.ppp_secrets.specs.SecretLine.{SecretLine}
use Rattle.ppp_secrets.specs.declared.secrets.SecretsPair.{SecretsPair}
use Rattle.ppp_proving.specs.Calls.{AuthCall, begins, hears, ticks}
use Rattle.ppp_auth.specs.declared.config.AuthConfig.{AuthConfig}

-- how the peer proves who it is, how we do, under which names, and our challenge
pub record Setting : Type 0 where
  pub peer_proves : Option Method
  pub we_prove : Option Method
  pub config : AuthConfig
  pub challenge : List ℕ

-- the phase begins; a packet of a protocol is heard; time passes. The secrets are those at the call.
pub data PhaseCall : Type 0 where
  starts : SecretsPair → PhaseCall
  takes : ℕ → Packet → SecretsPair → PhaseCall
  waits : PhaseCall

-- a call with its moment; a history is a list of these, the newest first
pub record PhaseAt : Type 0 where
  pub now : ℕ
  pub call : PhaseCall

-- the protocol of a method, and the secrets that it looks at
abbrev pub protocol_of : Method → ℕ
protocol_of Pap = PAP
protocol_of Chap = CHAP

abbrev pub lines_of : Method → SecretsPair → List SecretLine
lines_of Pap pair = pair.pap
lines_of Chap pair = pair.chap

-- the secrets as the phase began
abbrev pub pair_by : PhaseCall → Option SecretsPair
pair_by (starts pair) = Some pair
pair_by (takes protocol p pair) = None
pair_by waits = None

abbrev pub earlier : {X : Type 0} → Option X → Option X → Option X
earlier None later = later
earlier (Some x) later = Some x

abbrev pub first_pair : List PhaseAt → Option SecretsPair
first_pair [] = None
first_pair (c ∷ past) = earlier (first_pair past) (pair_by c.call)

-- the moment at which it began
abbrev pub moment_by : PhaseAt → Option ℕ
moment_by c = if is_some (pair_by c.call) then Some c.now else None

abbrev pub begun_at : List PhaseAt → Option ℕ
begun_at [] = None
begun_at (c ∷ past) = earlier (begun_at past) (moment_by c)

-- What of a call reaches a side of this method, for which this is the server's name: before the beginning nothing, and of the packets those
-- of its protocol alone.
abbrev pub reaching : Method → List ℕ → Option ℕ → PhaseCall → Option AuthCall
reaching method server began (starts pair) = Some begins
reaching method server began (takes protocol p pair) =
    if is_some began && (protocol == protocol_of method) then Some (hears p (record { lines = lines_of method pair; server = server })) else None
reaching method server began waits = if is_some began then Some ticks else None

-- Whether a call comes late: time passes, 60 seconds or more after the beginning. A packet never comes late: the 60 seconds are looked at where
-- time passes alone, so that one which comes after them, but before time has passed, is still heard.
abbrev pub is_over : Option ℕ → ℕ → Bool
is_over None now = false
is_over (Some began) now = nat_le (began + 60000) now

abbrev pub is_late : PhaseCall → Option ℕ → ℕ → Bool
is_late (starts pair) began now = false
is_late (takes protocol p pair) began now = false
is_late waits began now = is_over began now

-- A side is lost from the late call on before which it still waited.
abbrev pub is_lost : (List PhaseAt → Bool) → List PhaseAt → Bool
is_lost is_waiting [] = false
is_lost is_waiting (c ∷ past) = is_lost is_waiting past || (is_late c.call (begun_at past) c.now && is_waiting past)

-- a name, or the empty one
abbrev pub name_or_empty : Option (List ℕ) → List ℕ
name_or_empty None = []
name_or_empty (Some name) = name
