-- The lemmas that other crates may cite.
-- Messages of several needs are inherited one need after another.
pub use Rattle.odin_nodes.proofs.Once.{inherit_all}
