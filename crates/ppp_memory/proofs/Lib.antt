pub mod ClockLemmas
pub mod ControlLemmas
pub mod FilesLemmas
pub mod IfaceLemmas
pub mod KeptLemmas
pub mod LineLemmas
pub mod PlaceLemmas
mod Rows
