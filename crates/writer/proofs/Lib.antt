pub mod Bits
pub mod Fill
pub mod Back
