pub mod StandFacts
mod AskFacts
pub mod ReaderFacts
mod SendFacts
pub mod EndFacts
mod CallFacts
pub mod AuthFacts
mod JoinFacts
mod PostFacts
mod NewFacts
mod LookFacts
