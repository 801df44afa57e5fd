-- The lemmas that other crates may cite.
-- Calls and their jobs.
pub use Rattle.meaning_calls.proofs.Jobs.{one_job_one_call}
pub use Rattle.meaning_calls.proofs.Tested.{well_formed_decides}
-- Outcomes that fit.
pub use Rattle.meaning_calls.proofs.Fitting.{fits}
pub use Rattle.meaning_calls.proofs.Tested.{fits_decides}
