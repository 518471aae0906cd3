pub mod RuleLaws
pub mod StatementLaws
pub mod TableLaws
pub mod ReadLaws
