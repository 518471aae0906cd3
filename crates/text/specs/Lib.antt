pub mod Tokens
pub mod Words
pub mod Next
pub mod Covering
pub mod Cut
pub mod inner
