pub mod EachRule
pub mod UnchangedLemmas
pub mod CountLemmas
mod PhaseLemmas
mod SoundLemmas
