pub mod Admitted
pub mod Right
