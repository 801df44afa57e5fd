-- The lemmas that other crates may cite.
-- Each text is one of a checked graph or is refused, and by one fault.
pub use Rattle.dg_reader.proofs.RefusalLemmas.{not_refused, refused_by_one, read_or_refused}
