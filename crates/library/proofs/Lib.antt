pub mod Standing
pub mod Lent
