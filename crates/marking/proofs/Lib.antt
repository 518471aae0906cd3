pub mod Marked
pub mod Slots
pub mod Negative
pub mod Chains
