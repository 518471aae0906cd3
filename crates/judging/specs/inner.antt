pub mod Known
pub mod Times
