pub mod Results
pub mod inner
