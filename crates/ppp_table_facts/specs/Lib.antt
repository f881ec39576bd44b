pub mod TableStands
pub mod Came
