pub mod Rules
pub mod Faults
pub mod Meaning
pub mod Published
