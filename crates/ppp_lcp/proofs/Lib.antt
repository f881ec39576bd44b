pub mod OursLemmas
pub mod SessionLemmas
pub mod AgreedLemmas
pub mod EventLemmas
pub mod HeardLemmas
pub mod QuietLemmas
pub mod RangeLemmas
pub mod TimerLemmas
