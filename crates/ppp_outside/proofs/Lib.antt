pub mod AskedLemmas
pub mod Digits
pub mod MessageLemmas
pub mod Pieces
pub mod PutLemmas
pub mod TakenLemmas
