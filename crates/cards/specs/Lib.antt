pub mod Forms
pub mod Outcomes
pub mod Packings
pub mod Cards
pub mod inner
