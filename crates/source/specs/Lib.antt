pub mod Faults
pub mod Pages
pub mod Charts
pub mod Layers
