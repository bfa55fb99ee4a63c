pub mod Limited
pub mod Apart
pub mod Distance
pub mod ListNearest
pub mod Spread
pub mod LevelNearest
pub mod LevelLoops
pub mod LevelKinds
