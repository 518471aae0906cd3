pub mod RuleTests
pub mod WellFormed
pub mod Admitted
pub mod Passes
pub mod Sound
pub mod Taken
pub mod Cases
