pub mod Challenges
pub mod Judge
pub mod Packets
pub mod Passes
pub mod Peer
pub mod Responses
