-- The header of a piece (RFC 1990, section 3): B, E and bits of zero, then its number, big-endian. The long form has four
-- octets, and its numbers begin anew behind 2^24.
use Rattle.std.specs.Prelude.{◌≡◌, ◌⊎◌, ℕ, zero, suc, ◌+◌, ◌-◌, ◌*◌, ◌/◌, ◌%◌, ◌^◌, ◌==◌, nat_lt, Bool, if◌then◌else◌, List, [], ◌∷◌, slice_index, take, drop}
use Rattle.std.specs.List.{fold}
use Rattle.ppp_mp.specs.Delivered.{Fragment}

-- how many numbers the long form has before they begin anew
abbrev pub long_space : ℕ
long_space = 16777216

-- the octets of the long form
abbrev pub long_octets : ℕ
long_octets = 4

-- A number space and the octets of its header: the long form, or the short one, which has two bits of zero and a number of
-- twelve.
abbrev pub IsForm : (space octets : ℕ) → Type 0
IsForm space octets = ((space ≡ long_space) × (octets ≡ long_octets)) ⊎ ((space ≡ 4096) × (octets ≡ 2))

-- a number in so many octets, big-endian
abbrev pub big_endian : (octets number : ℕ) → List ℕ
big_endian zero number = []
big_endian (suc octets) number = number / 256 ^ octets % 256 ∷ big_endian octets number

-- B and E in the first octet
abbrev pub marks : (first last : Bool) → ℕ
marks first last = (if first then 128 else 0) + (if last then 64 else 0)

-- the header, of so many octets, of a piece with this number
abbrev pub header_of : (octets : ℕ) (first last : Bool) (number : ℕ) → List ℕ
header_of octets first last number = big_endian octets (marks first last * 256 ^ (octets - 1) + number)

-- the number that octets are, big-endian
abbrev pub number_of : List ℕ → ℕ
number_of octets = fold (λ number octet. number * 256 + octet) 0 octets

-- what an information that is no shorter than the header brings: the bits between E and the number aren't looked at
abbrev pub fragment_of : (space octets : ℕ) → List ℕ → Fragment
fragment_of space octets information = record {
  field = number_of (take octets information) % space;
  first = nat_lt 127 (slice_index information 0);
  last = slice_index information 0 / 64 % 2 == 1;
  octets = drop octets information;
}
