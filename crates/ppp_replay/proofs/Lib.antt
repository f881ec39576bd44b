pub mod HeadlineLemmas
pub mod PlayerLemmas
pub mod RunLemmas
