pub mod LineLemmas
pub mod SpawnerLemmas
