pub mod Kinds
pub mod Channels
