pub mod Opening
pub mod Texts
