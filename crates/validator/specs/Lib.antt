pub mod Verdicts
pub mod Laws
pub mod Fitting
pub mod FitLaws
pub mod FitExamples
