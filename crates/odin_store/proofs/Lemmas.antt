-- The lemmas that other crates may cite.
-- Changes one after another, and where they stop.
pub use Rattle.odin_store.proofs.GoingLemmas.{nothing_behind, on_there, batches_on, goes_none, goes_on, stops_left, stops_more, stops_behind}
-- Sources with one more and one less.
pub use Rattle.odin_store.proofs.SourceLemmas.{put_stays, drop_stays}
-- What is written to add records.
pub use Rattle.odin_store.proofs.WrittenLemmas.{written-append, gate-append, records-append, works_on, works_after}
-- A store that is as it was, and one that has no record but that of its graph.
pub use Rattle.odin_store.proofs.KeepingLemmas.{same_held, same_on, opens_same}
pub use Rattle.odin_store.proofs.CompactLemmas.{first_not_wasteful, held_leaves}
-- What is noted after the graph of an opening.
pub use Rattle.odin_store.proofs.OpenLemmas.{first_noted}
-- After an edit nothing counts as checked at the epoch, and a compaction leaves unchecked what is.
pub use Rattle.odin_store.proofs.StampLemmas.{none_checked, unchecked_stays, unstamped_at}
-- Where nothing is begun.
pub use Rattle.odin_store.proofs.RecordTrails.{nothing_first}
