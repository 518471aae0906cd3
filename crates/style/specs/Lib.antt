pub mod Layout
pub mod Printed
pub mod Tidy
pub mod inner
