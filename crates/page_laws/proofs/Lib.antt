pub mod One
pub mod Decimals
pub mod Plain
