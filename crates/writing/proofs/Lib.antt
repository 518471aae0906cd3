pub mod Putting
pub mod Clauses
pub mod Lines
