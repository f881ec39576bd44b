pub mod RunLemmas
pub mod ExistLemmas
pub mod ReadLemmas
