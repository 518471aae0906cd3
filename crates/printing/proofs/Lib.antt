pub mod Written
pub mod Bounded
pub mod Tabled
pub mod Filed
pub mod Fitting
