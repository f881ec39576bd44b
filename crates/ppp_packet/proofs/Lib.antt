pub mod Laying
pub mod Packets
pub mod Reading
