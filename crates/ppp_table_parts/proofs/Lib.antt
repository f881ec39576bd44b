pub mod SideLemmas
pub mod PostLemmas
pub mod TermLemmas
