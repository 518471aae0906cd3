pub mod LiteralLaws
pub mod ListLaws
pub mod ConditionLaws
pub mod AssignmentLaws
