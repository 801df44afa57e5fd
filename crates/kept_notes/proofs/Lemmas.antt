-- The lemmas that other crates may cite: what records say, while contents come after the others and records are put and renewed.
pub use Rattle.kept_notes.proofs.FactLemmas.{fact_stays, facts_put, facts_put_all, facts_renewed, facts_stay, put_all, put_all_all, record_later, records_later, renewed_all}
-- Records in memory of what is to be noted.
pub use Rattle.kept_notes.proofs.NumberLemmas.{all_checked, note_fresh, note_within, notes_noted, notes_present, notes_say}
-- What a stored record is in memory.
pub use Rattle.kept_notes.proofs.LoadedLemmas.{loadable_says, loadable_within}
-- Records that may be noted.
pub use Rattle.kept_notes.proofs.NotedLemmas.{all_fresh_stay, all_named, all_notable, all_noted, all_noted_stay, loaded_noted, renewed_noted, within_stays}
