-- The lemmas that other crates may cite.
-- Truth.
pub use Rattle.meaning_true.proofs.Settling.{true_settles, truth_stays}
pub use Rattle.meaning_true.proofs.Closing.{closed_true}
pub use Rattle.meaning_true.proofs.Renewing.{renews}
-- The deps of a record, and what it gives over results that agree on them.
pub use Rattle.meaning_true.proofs.Renewing.{counted_sub, dep_of, of_dep, view_same}
-- What is known of records.
pub use Rattle.meaning_true.proofs.Knowing.{tells_stay, knows_on, nothing_known, present_on, present_before}
