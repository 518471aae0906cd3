pub mod EditorLaws
pub mod TallyLaws
