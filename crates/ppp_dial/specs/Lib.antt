pub mod Happened
pub mod LookingBack
pub mod DialLaw
pub mod Answer
pub mod DialState
pub mod InPlace
pub mod Rows
pub use Rattle.ppp_timer.specs.Due
