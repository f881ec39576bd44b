pub mod Calls
pub mod GivenLemmas
pub mod OneMore
pub mod Places
pub mod Stands
