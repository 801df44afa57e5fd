-- The lemmas that other crates may cite.
-- The end of a tool that is lost, as it is told.
pub use Rattle.odin_memory.proofs.Ending.{told_loses}
