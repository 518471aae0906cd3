pub mod Holding
pub mod Filling
pub mod Truths
pub mod Lists
