pub mod Heights
pub mod Visits
pub mod Rising
pub mod Settled
pub mod Layered
pub mod Written
