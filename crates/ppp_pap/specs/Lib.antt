pub mod Answers
pub mod Judge
pub mod Packets
pub mod Passes
pub mod Peer
pub mod Requests
