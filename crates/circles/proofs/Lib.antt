pub mod Leading
pub mod Links
pub mod Closure
pub mod Linking
pub mod Led
pub mod Circled
