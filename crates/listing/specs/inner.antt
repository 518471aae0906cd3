pub mod AnswerLines
pub mod Refused
