pub mod Lines
pub mod Tabled
