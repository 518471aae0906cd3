pub mod Index
pub mod LineLaws
