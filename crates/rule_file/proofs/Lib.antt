pub mod FileTable
pub mod Shown
pub mod Answers
pub mod Unlayered
pub mod Cases
pub mod Within
