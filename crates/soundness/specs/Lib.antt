pub mod Sound
pub mod inner
