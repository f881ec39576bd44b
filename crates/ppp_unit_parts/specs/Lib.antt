pub mod Member
pub mod Fits
pub mod Live
pub mod Calls
pub mod Pieces
pub mod Wishes
