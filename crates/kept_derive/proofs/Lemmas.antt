-- The lemmas that other crates may cite.
-- What a store holds, and what is known, after calls were run and kept, and nodes noted.
pub use Rattle.kept_derive.proofs.HeldLemmas.{calls_after, sources_after, held_after_all, calls_after_all, sources_after_all, records_after_all}
-- What a store keeps of nodes: what its records say, which may be kept, and what is known of them at first, after an edit, and where nothing changed.
pub use Rattle.kept_derive.proofs.KnowLemmas.{SaysFacts, says_facts, fact_in, fact_there, records_stay, readable_of, known_at_first, known_after_edit, known_same}
-- What follows of calls that were run and kept, and where a derivation stopped.
pub use Rattle.kept_derive.proofs.LawLemmas.{known_by, known_by_all, known_is, runs_new, found_keeps, found_has_run, found_now, all_kept, none_run_again, answer_stays, runs_are_true, found_is_true}
pub use Rattle.kept_derive.proofs.StopLemmas.{stops_keep, disk_stops, stops_are_true}
