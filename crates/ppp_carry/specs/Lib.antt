pub use Rattle.ppp_table.specs.Asking
pub use Rattle.ppp_table.specs.Counts
pub use Rattle.ppp_table.specs.PostPart
pub use Rattle.ppp_table.specs.TableState
pub use Rattle.ppp_table_parts.specs.Side
pub use Rattle.ppp_table_parts.specs.Sides
pub mod CarryPart
