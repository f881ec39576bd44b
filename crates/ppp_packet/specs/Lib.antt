pub mod OptionList
pub mod OptionsOf
pub mod PacketOf
