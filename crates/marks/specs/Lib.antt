pub mod Marks
pub mod Selection
pub mod AnyOrder
pub mod inner
