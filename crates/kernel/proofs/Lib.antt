pub mod Neighbours
pub mod Refusals
