mod OneLineLemmas
mod SameLemmas
mod DialFacts
pub mod KeepFacts
pub mod TellFacts
pub mod ReturnFacts
pub mod GiveFacts
pub mod LinkFacts
