pub use Rattle.ppp_base.specs.RingAfter
pub use Rattle.ppp_ring.specs.Pieces
pub mod Key
pub mod Side
pub mod Sides
pub mod Deliveries
