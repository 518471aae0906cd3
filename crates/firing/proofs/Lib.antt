pub mod Sorting
pub mod Placing
pub mod Sorted
pub mod Running
pub mod Responses
pub mod Arrays
