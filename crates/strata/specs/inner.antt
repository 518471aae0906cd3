pub mod Heights
pub mod Visits
pub mod Settled
