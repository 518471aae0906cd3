pub mod Index
pub mod Lines
pub mod Remainder
