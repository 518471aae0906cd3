pub mod Ending
pub mod Outcomes
pub mod Respond
pub mod inner
