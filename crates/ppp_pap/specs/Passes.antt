-- Who passes by PAP (RFC 1334, section 2.2.1; pppd(8), "Authentication": an empty secret lets any password in).
use Rattle.std.specs.Prelude.{ℕ, ◌≡◌, ◌⊎◌, Bool, true, Option, Some, None, List, [], ◌∷◌, if◌then◌else◌}
use Rattle.std.specs.Str.{bytes_eq}
use Rattle.ppp_secrets.specs.SecretLine.{SecretLine}
use Rattle.ppp_secrets.specs.Lookup.{line_for}
use Rattle.ppp_proving.specs.Calls.{Against}

-- The one of this name passes with this password, by the line with this number: it is the line for the two names, and its secret is empty or
-- the password.
pub record Passes (a : Against) (name password : List ℕ) (number : ℕ) : Type 0 where
  pub line : SecretLine
  pub found : line_for a.lines name a.server ≡ Some line
  pub right : (line.secret ≡ []) ⊎ (line.secret ≡ password)
  pub numbered : line.number ≡ number

-- the same as a function: the number of the line by which one passes
abbrev pub lets_in : List ℕ → List ℕ → Bool
lets_in [] password = true
lets_in (octet ∷ octets) password = bytes_eq (octet ∷ octets) password

abbrev pub passing : Option SecretLine → List ℕ → Option ℕ
passing None password = None
passing (Some line) password = if lets_in line.secret password then Some line.number else None

abbrev pub passing_line : Against → List ℕ → List ℕ → Option ℕ
passing_line a name password = passing (line_for a.lines name a.server) password
