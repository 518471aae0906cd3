pub mod Values
pub mod Bits
