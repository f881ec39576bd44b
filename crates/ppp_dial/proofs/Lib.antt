mod Allowed
mod FinishLemmas
mod LookingBackLemmas
mod PassingLemmas
mod PlaceLemmas
mod Standing
mod StopLemmas
