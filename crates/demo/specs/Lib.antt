pub mod Nearest
pub mod Staged
pub mod Stops
