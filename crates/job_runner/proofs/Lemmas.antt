-- The lemmas that other crates may cite.
-- Lists with no item twice.
pub use Rattle.job_runner.proofs.ListLemmas.{distinct_more, distinct_less, no_more}
-- Calls that run: one more, and one between others.
pub use Rattle.job_runner.proofs.ListLemmas.{calls_one_more, slots_one_more, told_one_more, length_one_more, calls_cut, slots_cut, calls_both, slots_both}
pub use Rattle.job_runner.proofs.ListLemmas.{calls_long, call_there, call_or_last, call_goes_on, call_before, call_left, call_is_out}
-- Jobs and tools agree after each start and each end.
pub use Rattle.job_runner.proofs.ToldLemmas.{begun_told, start_told, finish_told}
