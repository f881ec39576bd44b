pub mod Asked
pub mod Options
pub mod Heard
pub mod Talks
pub mod Talking
pub mod Telling
pub mod Run
pub mod Rows
