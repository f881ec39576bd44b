pub mod Calls
pub mod Own
pub mod Resending
pub mod Which
