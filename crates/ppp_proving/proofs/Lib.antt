pub mod Judging
pub mod Sending
pub mod WhichLemmas
