pub mod Tables
pub mod inner
