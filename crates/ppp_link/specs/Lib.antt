pub mod ErrandValues
pub mod Reading
pub mod OneLine
pub mod Between
pub mod Link
pub mod Steps
pub mod Given
