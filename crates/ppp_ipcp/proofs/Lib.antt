pub mod OursLemmas
pub mod SessionLemmas
pub mod HeardLemmas
pub mod EventLemmas
pub mod MayHaveLemmas
pub mod HavingLemmas
