pub mod Flags
pub mod Filled
pub mod Put
pub mod Total
pub mod Back
