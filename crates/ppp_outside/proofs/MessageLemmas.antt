-- A packet has at least one octet.
use Rattle.std.proofs.Common.{ℕ, List, [], ◌∷◌, length, Some, None, Bool, true, false, ◌&&◌, nat_lt, nat_le, if◌then◌else◌, rules}
use Rattle.ppp_outside.specs.Messages.{IsFilled, packet_of}

filled_if : (unit : ℕ) (octets : List ℕ) (fits : Bool) → IsFilled (if nat_lt unit 16 && (nat_lt 0 (length octets) && fits) then Some (record { unit = unit; datagram = octets }) else None)
filled_if unit [] fits = elim (nat_lt unit 16) as (λ known. IsFilled (if known && (nat_lt 0 0 && fits) then Some (record { unit = unit; datagram = [] }) else None)) [ true ↦ tt | false ↦ tt ]
filled_if unit (octet ∷ rest) fits = elim (nat_lt unit 16 && (nat_lt 0 (length (octet ∷ rest)) && fits)) as (λ known. IsFilled (if known then Some (record { unit = unit; datagram = octet ∷ rest }) else None)) [ true ↦ search rules | false ↦ tt ]

pub is_filled : (message : List ℕ) → IsFilled (packet_of message)
is_filled [] = tt
is_filled (unit ∷ octets) = filled_if unit octets (nat_le (length octets) 2048)
