pub mod Buffers
pub mod Refusals
pub mod Pages
pub mod Back
