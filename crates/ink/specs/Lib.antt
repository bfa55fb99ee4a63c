pub mod Values
pub mod Inks
pub mod Nearness
pub mod LevelRules
pub mod LevelFacts
pub mod Levels
pub mod Lists
