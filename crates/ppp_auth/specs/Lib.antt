pub mod Ends
pub mod Judged
pub mod Outcome
pub mod Phase
pub mod Proved
pub mod Setting
pub mod Sides
