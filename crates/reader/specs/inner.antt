pub mod Rules
pub mod Statements
