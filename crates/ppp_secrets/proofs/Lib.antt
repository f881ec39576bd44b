pub mod PartLemmas
pub mod LineLemmas
pub mod FewestLemmas
pub mod LookupLemmas
pub mod HoldsLemmas
pub mod AddressLemmas
mod Rows
