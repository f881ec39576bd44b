-- What a frame that comes is looked at as, by its protocol and the phase of the link (RFC 1661, section 3).
use Rattle.std.specs.Prelude.{ℕ, ◌==◌, ◌||◌, Bool, true, false, if◌then◌else◌, Option, None, Some, is_some}
use Rattle.ppp_base.specs.declared.protocol.TheConstants.{IP, MULTILINK, IPCP, LCP, PAP, CHAP}
use Rattle.ppp_packet.specs.declared.agreed.Agreed.{Agreed}
use Rattle.ppp_lcp.specs.Session.{is_agreed}

-- LCP isn't in Opened; authentication goes on; the network phase
pub data LinkPhase : Type 0 where
  Establishing : LinkPhase
  Authenticating : LinkPhase
  Networking : LinkPhase

abbrev pub phase_by : Bool → Bool → LinkPhase
phase_by false passed = Establishing
phase_by true false = Authenticating
phase_by true true = Networking

-- It is LCP's packet, one of authentication, a frame for the table, or of a protocol that is rejected; or it is discarded.
pub data Treatment : Type 0 where
  ToLcp : Treatment
  ToAuth : Treatment
  ToTable : Treatment
  ToReject : Treatment
  Discarded : Treatment

-- The kinds of protocols. Pieces are of the table only where both ends agreed on multilink (RFC 1990, section 5.1.1), and those of
-- authentication are looked at only where they were agreed on.
pub data Kind : Type 0 where
  OfLcp : Kind
  OfAuth : Kind
  OfOtherAuth : Kind
  OfTable : Kind
  Unknown : Kind

abbrev pub has_pieces : Option Agreed → Bool
has_pieces None = false
has_pieces (Some agreed) = is_some agreed.mrru

abbrev pub kind_of : Option Agreed → ℕ → Kind
kind_of agreed protocol =
    if protocol == LCP then OfLcp
    else if protocol == PAP || protocol == CHAP then (if is_agreed protocol agreed then OfAuth else OfOtherAuth)
    else if protocol == IP || protocol == IPCP then OfTable
    else if protocol == MULTILINK then (if has_pieces agreed then OfTable else Unknown)
    else Unknown

-- The table. Until all needed parts have passed, protocols other than LCP and the agreed ones of authentication are discarded (RFC 1661, sections 3.4
-- and 3.5); a Protocol-Reject is sent in the network phase alone (RFC 1661, section 5.7).
abbrev pub treatment : LinkPhase → Kind → Treatment
treatment Establishing OfLcp = ToLcp
treatment Establishing OfAuth = Discarded
treatment Establishing OfOtherAuth = Discarded
treatment Establishing OfTable = Discarded
treatment Establishing Unknown = Discarded
treatment Authenticating OfLcp = ToLcp
treatment Authenticating OfAuth = ToAuth
treatment Authenticating OfOtherAuth = Discarded
treatment Authenticating OfTable = Discarded
treatment Authenticating Unknown = Discarded
treatment Networking OfLcp = ToLcp
treatment Networking OfAuth = ToAuth
treatment Networking OfOtherAuth = Discarded
treatment Networking OfTable = ToTable
treatment Networking Unknown = ToReject

-- what is done in the network phase alone
abbrev pub is_of_network : Treatment → Bool
is_of_network ToLcp = false
is_of_network ToAuth = false
is_of_network ToTable = true
is_of_network ToReject = true
is_of_network Discarded = false

abbrev pub Phase : LinkPhase → Option Agreed → ℕ → Treatment
Phase phase agreed protocol = treatment phase (kind_of agreed protocol)

-- When a Join may be posted: in the network phase, where this opening of LCP has asked for no bundle, and neither a Join nor a Leave waits.
-- A Leave is posted as LCP leaves Opened, where there is a stay.
abbrev pub may_ask : LinkPhase → Option ℕ → Bool → Bool
may_ask Establishing stay waits = false
may_ask Authenticating stay waits = false
may_ask Networking None false = true
may_ask Networking None true = false
may_ask Networking (Some stay) waits = false
