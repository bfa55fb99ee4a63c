pub mod Fields
pub mod Headers
pub mod Refusals
pub mod Plain
pub mod Rasters
pub mod Readers
