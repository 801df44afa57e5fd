-- The lemmas that other crates may cite: records that are put and renewed.
pub use Rattle.kept_records.proofs.RecordLemmas.{put_own, put_others, put_nodes, put_last, renew_own, renew_others, renew_lasting}
-- Where the record of a node stands, and the nodes in their order.
pub use Rattle.kept_records.proofs.PlaceLemmas.{none_nowhere, nowhere_none, put_once, record_there, renew_nodes, same_once, same_places}
