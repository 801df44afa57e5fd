-- The lemmas that other crates may cite.
-- Tables of what is chosen of a list, item by item.
pub use Rattle.type_graph.proofs.ContextLemmas.{mapped_push, mapped_stays}
pub use Rattle.type_graph.proofs.TableLemmas.{no_other}
