-- One who proves himself by CHAP, by the list of his calls, the newest first (RFC 1994, section 4).
use Rattle.std.specs.Prelude.{ℕ, ◌≡◌, ◌==◌, ◌&&◌, Bool, false, Option, Some, None, option_map, List, [], ◌∷◌, if◌then◌else◌, ⊤}
use Rattle.ppp_packet.specs.declared.packet.Packet.{Packet}
use Rattle.ppp_packet.specs.declared.auth_out.AuthOutcome.{AuthOutcome}
use Rattle.ppp_packet.specs.declared.auth_out.AuthOutcome.TheVariants.{Waiting, Passed, Refused}
use Rattle.ppp_secrets.specs.SecretLine.{SecretLine}
use Rattle.ppp_secrets.specs.Lookup.{line_for}
use Rattle.ppp_proving.specs.Calls.{Against, AuthCall, begins, hears, ticks, Answered, turned}
use Rattle.ppp_chap.specs.Packets.{response_packet, valued_of}
use Rattle.ppp_chap.specs.Passes.{value_of}

-- the value and the name of a challenge
abbrev pub challenge_in : Packet → Option (List ℕ × List ℕ)
challenge_in p = if p.code == 1 then valued_of p.body else None

-- an empty name of the server stands for the name in the challenge
abbrev pub server_of : List ℕ → List ℕ → List ℕ
server_of [] challenger = challenger
server_of (octet ∷ octets) challenger = octet ∷ octets

-- our secret: that of the option `password`, or else that of the line for our name and the server's
abbrev pub secret_for : Option (List ℕ) → List ℕ → Against → List ℕ → Option (List ℕ)
secret_for (Some password) name a challenger = Some password
secret_for None name a challenger = option_map (λ (line : SecretLine). line.secret) (line_for a.lines name (server_of a.server challenger))

-- the response to a challenge, where there is a secret
abbrev pub response_to : List ℕ → Option (List ℕ) → Against → ℕ → Option (List ℕ × List ℕ) → Option Packet
response_to name password a id None = None
response_to name password a id (Some challenge) =
    option_map (λ secret. response_packet id (value_of id secret challenge.0) name) (secret_for password name a challenge.1)

-- Each challenge is answered, at any time.
abbrev pub sends : List ℕ → Option (List ℕ) → AuthCall → Option Packet
sends name password begins = None
sends name password (hears p a) = response_to name password a p.id (challenge_in p)
sends name password ticks = None

-- the identifier of the last challenge that was answered
abbrev pub answered_by : Option Packet → Option ℕ → Option ℕ
answered_by None earlier = earlier
answered_by (Some response) earlier = Some response.id

abbrev pub last_answered : List Answered → Option ℕ
last_answered [] = None
last_answered (h ∷ past) = answered_by h.packet (last_answered past)

abbrev pub is_id : Option ℕ → ℕ → Bool
is_id None id = false
is_id (Some answered) id = answered == id

-- A challenge for which there is no secret says that we fail; a Success and a Failure count where they answer the last challenge that was answered.
abbrev pub where_none : List ℕ → Option (List ℕ) → AuthOutcome
where_none name None = Refused name
where_none name (Some secret) = Waiting

abbrev pub no_secret : List ℕ → Option (List ℕ) → Against → Option (List ℕ × List ℕ) → AuthOutcome
no_secret name password a None = Waiting
no_secret name password a (Some challenge) = where_none name (secret_for password name a challenge.1)

abbrev pub packet_says : List ℕ → Option (List ℕ) → Option ℕ → Packet → Against → AuthOutcome
packet_says name password answered p a =
    if p.code == 1 then no_secret name password a (challenge_in p)
    else if p.code == 3 && is_id answered p.id then Passed name 0
    else if p.code == 4 && is_id answered p.id then Refused name
    else Waiting

abbrev pub said_by : List ℕ → Option (List ℕ) → Option ℕ → AuthCall → AuthOutcome
said_by name password answered begins = Waiting
said_by name password answered (hears p a) = packet_says name password answered p a
said_by name password answered ticks = Waiting

-- The outcome: a Failure counts after a Success too.
abbrev pub outcome_in : List ℕ → Option (List ℕ) → List Answered → AuthOutcome
outcome_in name password [] = Waiting
outcome_in name password (h ∷ past) = turned (outcome_in name password past) (said_by name password (last_answered past) h.call)

-- A call's answer, after these calls.
pub record IsLawful (name : List ℕ) (password : Option (List ℕ)) (h : Answered) (past : List Answered) : Type 0 where
  pub outcome : h.outcome ≡ outcome_in name password (h ∷ past)
  pub packet : h.packet ≡ sends name password h.call

abbrev pub AreLawful : List ℕ → Option (List ℕ) → List Answered → Type 0
AreLawful name password [] = ⊤
AreLawful name password (h ∷ past) = IsLawful name password h past × AreLawful name password past

-- what contracts see of one who proves himself
pub record PeerState : Type 0 where
  pub name : List ℕ
  pub password : Option (List ℕ)
  pub answered : Option ℕ
  pub outcome : AuthOutcome

-- He stands for these calls.
pub record StandsFor (peer : PeerState) (past : List Answered) : Type 0 where
  pub lawful : AreLawful peer.name peer.password past
  pub answered_is : peer.answered ≡ last_answered past
  pub outcome_is : peer.outcome ≡ outcome_in peer.name peer.password past
