pub mod Live
pub mod Selected
