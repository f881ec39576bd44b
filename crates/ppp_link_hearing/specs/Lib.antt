pub mod Chatted
pub mod Heard
