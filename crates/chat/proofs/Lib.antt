mod AskedLemmas
mod HeardLemmas
mod OptionLemmas
mod RunLemmas
mod TalkLemmas
mod TellingLemmas
