pub mod Numbers
pub mod Cut
pub mod Steps
pub mod Here
pub mod Position
pub mod Covering
pub mod Words
