pub mod Marked
pub mod Waking
