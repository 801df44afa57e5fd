pub mod Shown
pub mod ShownExamples
pub mod ShownLaws
