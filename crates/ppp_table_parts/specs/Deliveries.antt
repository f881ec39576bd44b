-- The datagrams that wait to be given to the system, each with its unit.
use Rattle.std.specs.Prelude.{ℕ, List, [], ◌∷◌}
use Rattle.ppp_base.specs.RingAfter.{Ring, RingAfter}
use Rattle.ppp_ring.specs.Pieces.{Piece, taken_by}
use Rattle.ppp_table_parts.specs.declared.deliveries.Delivery.{Delivery}
use Rattle.ppp_table_parts.specs.declared.head.TheConstants.{DELIVERY_HEAD, MOST_DELIVERED}

-- what deliveries take in the ring: three octets and the datagram
abbrev pub deliveries_size : List (Piece ℕ) → ℕ
deliveries_size deliveries = taken_by DELIVERY_HEAD deliveries

abbrev pub with_delivery : ℕ → List ℕ → Ring (Piece ℕ) → Ring (Piece ℕ)
with_delivery unit datagram ring = RingAfter deliveries_size MOST_DELIVERED (record { head = unit; octets = datagram } ∷ []) ring

-- of a list, the first first
abbrev pub with_deliveries : ℕ → List (List ℕ) → Ring (Piece ℕ) → Ring (Piece ℕ)
with_deliveries unit [] ring = ring
with_deliveries unit (datagram ∷ datagrams) ring = with_deliveries unit datagrams (with_delivery unit datagram ring)

-- a delivery, as it waits
abbrev pub piece_of : Delivery → Piece ℕ
piece_of d = record { head = d.unit; octets = d.datagram }
