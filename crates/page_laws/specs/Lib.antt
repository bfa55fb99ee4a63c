pub mod Readings
pub mod Plain
