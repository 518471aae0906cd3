pub mod SlipLaws
pub mod InOrder
pub mod AnswerLaws
pub mod Fired
pub mod Selected
pub mod Declared
pub mod RespondLaws
