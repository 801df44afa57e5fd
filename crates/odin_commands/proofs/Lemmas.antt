-- The lemmas that other crates may cite.
-- Bytes that stand in no number and in no ID.
pub use Rattle.odin_commands.proofs.TextLemmas.{decimal_has_no, id_has_no}
