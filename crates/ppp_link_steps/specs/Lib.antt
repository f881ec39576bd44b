pub mod Back
pub mod Dialled
pub mod Calm
pub mod Posted
pub mod Slots
pub mod Come
