pub mod Whole
pub mod Carries
