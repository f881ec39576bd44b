pub mod DecisionLemmas
pub mod FaultLemmas
pub mod FullLemmas
pub mod NumberLemmas
pub mod OnceLemmas
pub mod PartLemmas
pub mod SectionLemmas
pub mod SignalLemmas
pub mod StepLemmas
pub mod TellLemmas
pub mod TraceLemmas
mod MadeLemmas
