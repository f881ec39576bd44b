pub mod Budget
pub mod Scripts
pub mod Errands
pub mod LinkStands
pub mod Moves
