pub mod Entry
pub mod Input
pub mod Output
pub mod Plan
pub mod Trees
pub mod FailingFile
pub mod FailingTools
