pub mod Tests
pub mod Joining
pub mod Counts
