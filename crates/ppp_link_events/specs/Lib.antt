pub mod Going
pub mod Hearing
pub mod Looking
