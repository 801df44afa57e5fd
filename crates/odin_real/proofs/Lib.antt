pub mod Given
pub mod Runs
mod AskedLemmas
mod CutLemmas
mod EndLemmas
mod FaultLemmas
mod FolderLemmas
mod RunningLemmas
