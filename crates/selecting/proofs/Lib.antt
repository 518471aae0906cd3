pub mod Live
pub mod MarkLaws
pub mod Given
pub mod Assigning
pub mod Dropping
pub mod Standing
pub mod Turns
pub mod Sweeping
