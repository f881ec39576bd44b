pub mod ActNames
pub mod BareRun
pub mod Player
pub mod BareText
pub mod Run
