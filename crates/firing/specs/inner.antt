pub mod Firing
pub mod Sorting
