mod Lines
mod Parts
mod Jobs
mod Fitting
mod Tested
pub mod Lemmas
