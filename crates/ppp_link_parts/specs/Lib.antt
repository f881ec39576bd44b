pub mod Records
pub mod Talk
pub mod UpRing
