pub mod Truth
pub mod Waiting
