pub mod CalmLemmas
pub mod TalkLemmas
pub mod HearLemmas
mod DialFacts
mod SignalFacts
mod OverFacts
mod PostFacts
mod TickFacts
mod JobFacts
mod NewFacts
mod LineFacts
mod ErrandFacts
pub mod ComeFacts
mod WishFacts
pub mod HearFacts
