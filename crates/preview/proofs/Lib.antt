pub mod Firsts
pub mod Lacks
pub mod Pictures
