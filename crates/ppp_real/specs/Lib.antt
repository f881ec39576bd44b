pub mod Child
pub mod ChildOutput
pub mod Control
pub mod Line
pub mod Spawner
