pub mod Ending
pub mod Record
