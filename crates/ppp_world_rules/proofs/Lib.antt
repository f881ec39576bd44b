pub mod Places
pub mod LinkRuns
pub mod CarryRuns
pub mod Runs
pub mod LinkSteps
