pub mod Links
pub mod Named
