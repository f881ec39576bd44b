-- Who passes by CHAP (RFC 1994, section 4.1).
use Rattle.std.specs.Prelude.{ℕ, ◌≡◌, ◌++◌, Option, Some, None, List, ◌∷◌, if◌then◌else◌}
use Rattle.std.specs.Str.{bytes_eq}
use Rattle.md5.specs.Md5.{md5}
use Rattle.ppp_secrets.specs.SecretLine.{SecretLine}
use Rattle.ppp_secrets.specs.Lookup.{line_for}
use Rattle.ppp_proving.specs.Calls.{Against}

-- the value that answers a challenge with this identifier
abbrev pub value_of : ℕ → List ℕ → List ℕ → List ℕ
value_of id secret challenge = md5 (id ∷ (secret ++ challenge))

-- The one of this name passes with this value, by the line with this number: it is the line for the two names, and the value is that of its
-- secret and our challenge, whose identifier is 1.
pub record Passes (a : Against) (challenge name value : List ℕ) (number : ℕ) : Type 0 where
  pub line : SecretLine
  pub found : line_for a.lines name a.server ≡ Some line
  pub right : value ≡ value_of 1 line.secret challenge
  pub numbered : line.number ≡ number

-- the same as a function: the number of the line by which one passes
abbrev pub passing : List ℕ → Option SecretLine → List ℕ → Option ℕ
passing challenge None value = None
passing challenge (Some line) value = if bytes_eq value (value_of 1 line.secret challenge) then Some line.number else None

abbrev pub passing_line : Against → List ℕ → List ℕ → List ℕ → Option ℕ
passing_line a challenge name value = passing challenge (line_for a.lines name a.server) value
