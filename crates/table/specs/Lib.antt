pub mod Zero
pub mod Empty
pub mod Link
pub mod inner
