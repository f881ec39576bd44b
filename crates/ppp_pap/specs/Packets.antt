-- The packets of PAP (RFC 1334, section 2.2): a request carries a name and a password, an answer a message, each behind its length.
use Rattle.std.specs.Prelude.{ℕ, ◌==◌, ◌&&◌, nat_lt, Bool, false, Option, Some, None, List, [], ◌∷◌, ◌++◌, length, take, drop, if◌then◌else◌}
use Rattle.ppp_packet.specs.declared.packet.Packet.{Packet}

abbrev pub request_body : List ℕ → List ℕ → List ℕ
request_body name password = length name ∷ (name ++ (length password ∷ password))

-- an Authenticate-Request of ours
abbrev pub request_packet : List ℕ → List ℕ → Packet
request_packet name password = record { code = 1; id = 1; body = request_body name password }

-- the name and the password of a request's data, where these fill it exactly
abbrev pub password_behind : List ℕ → List ℕ → Option (List ℕ × List ℕ)
password_behind name [] = None
password_behind name (size ∷ password) = if length password == size then Some (name, password) else None

abbrev pub request_of : List ℕ → Option (List ℕ × List ℕ)
request_of [] = None
request_of (size ∷ rest) = if nat_lt size (length rest) then password_behind (take size rest) (drop size rest) else None

-- whether an answer's data are a message and its length
abbrev pub is_message : List ℕ → Bool
is_message [] = false
is_message (size ∷ message) = length message == size

-- an answer to our request: its identifier is 1, and its data are a message
abbrev pub is_answer : ℕ → Packet → Bool
is_answer code p = p.code == code && p.id == 1 && is_message p.body

-- an answer of ours to a request with this identifier, with an empty message
abbrev pub answer_packet : ℕ → ℕ → Packet
answer_packet code id = record { code = code; id = id; body = 0 ∷ [] }
