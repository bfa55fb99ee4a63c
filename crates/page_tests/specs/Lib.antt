pub mod Kinds
pub mod Flats
pub mod Seeing
pub mod Outcomes
