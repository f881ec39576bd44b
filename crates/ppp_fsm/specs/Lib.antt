pub mod Acts
pub mod Fsm
pub mod Moving
pub mod Opening
pub mod State
pub mod Steps
pub mod TableTest
