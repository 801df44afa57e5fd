-- The lemmas that other crates may cite: readings one after another, and what is read so far.
pub use Rattle.project_file.proofs.ReadLemmas.{bound, refused_first, refused_then, with_texts}
