-- A verdict with a magic number, and what a Protocol-Reject carries (RFC 1661, section 5.7).
use Rattle.std.specs.Prelude.{ℕ, ◌-◌, Bool, false, List, ◌++◌, take}
use Rattle.std.specs.Int.{to_be_bytes, w16}
use Rattle.ppp_control.specs.declared.judging.Verdict.{Verdict}
use Rattle.ppp_control.specs.declared.judging.Verdict.TheVariants.{Ack, Nak, Reject}
use Rattle.ppp_lcp.specs.Ours.{names_magic}

abbrev pub has_magic : Verdict → Bool
has_magic Ack = false
has_magic (Nak items) = names_magic items
has_magic (Reject items) = false

-- the protocol, and as much of the information as makes a packet of at most so many octets
abbrev pub cut_information : ℕ → ℕ → List ℕ → List ℕ
cut_information limit protocol information = to_be_bytes w16 protocol ++ take (limit - 6) information
