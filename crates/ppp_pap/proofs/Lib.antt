pub mod AnswerLemmas
pub mod JudgeLemmas
pub mod PacketLemmas
pub mod PeerLemmas
pub mod PeerRuns
mod Rows
