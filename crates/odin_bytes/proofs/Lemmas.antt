-- The lemmas that other crates may cite.
-- A byte that no name has stands in no name.
pub use Rattle.odin_bytes.proofs.WordLemmas.{has_no}
