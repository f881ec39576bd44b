pub mod BeforeLemmas
pub mod EndLemmas
pub mod LateLemmas
pub mod PhaseLemmas
pub mod ProverLemmas
pub mod Rows
pub mod Runs
pub mod SideLemmas
