pub mod AnswerLemmas
pub mod JudgeLemmas
pub mod JudgeRuns
pub mod PacketLemmas
pub mod PassesLemmas
pub mod PeerLemmas
pub mod PeerRuns
mod Rows
