pub mod Printing
pub mod inner
