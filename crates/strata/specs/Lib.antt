pub mod Layered
pub mod inner
