pub mod Limits
pub mod Meaning
pub mod Laying
pub mod Packing
pub mod Memory
pub mod BitFacts
pub mod Marks
