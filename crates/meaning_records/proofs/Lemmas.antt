-- The lemmas that other crates may cite.
-- The number of a value, and contents with one more.
pub use Rattle.meaning_records.proofs.NumberLemmas.{value_exact, leads_back, none_nowhere, numbered, nowhere_none, number_stays, number_behind, number_before}
-- What a stored record says is one thing; a record of what may be noted may be noted, and what it needs is short.
pub use Rattle.meaning_records.proofs.Facts.{one_fact}
pub use Rattle.meaning_records.proofs.NotesWriting.{may_be_noted, short_needed}
-- The contents in a batch.
pub use Rattle.meaning_records.proofs.LiveContents.{contents_in}
-- Deps by the count of their reached sources.
pub use Rattle.meaning_records.proofs.Roles.{IsNeedOf, AreNeedsOf, as_many, count_within, deps_by_count}
