pub use Rattle.ppp_words.specs.PlacedWord
pub use Rattle.ppp_words.specs.Front as TextFront
pub use Rattle.ppp_words.specs.Steps
pub use Rattle.ppp_words.specs.Words
pub use Rattle.ppp_outside.specs.Counts
pub use Rattle.ppp_outside.specs.Files
pub use Rattle.ppp_base.specs.Numbers
pub mod Split
pub mod FileWords
pub mod Front
pub mod Told
pub mod Walk
pub mod Said
