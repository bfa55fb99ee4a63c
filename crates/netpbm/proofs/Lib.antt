pub mod Judged
pub mod Digits
