pub mod Shape
pub mod Link
pub mod Flat
pub mod Fits
pub mod Walks
