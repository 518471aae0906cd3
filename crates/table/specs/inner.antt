pub mod Flat
pub mod Fits
pub mod Shape
