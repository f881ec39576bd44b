pub mod Decimals
pub mod HexLemmas
pub mod HexNumbers
mod NumberLemmas
pub mod PartLemmas
