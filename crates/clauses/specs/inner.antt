pub mod Literals
pub mod Conditions
pub mod Assignments
