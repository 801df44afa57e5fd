-- The lemmas that other crates may cite.
-- What was told by a function leads to the names to which that function leads.
pub use Rattle.dynamic_inputs.proofs.TellingLaws.{root_again, all_told_is_reached, told_first, told_next}
-- What stays, and what falls, while one name after another is told.
pub use Rattle.dynamic_inputs.proofs.Falling.{root_stays, told_to, untold_of, untold_falls, unfound_of, all_found}
-- What is among names that are added where they are new.
pub use Rattle.dynamic_inputs.proofs.Found.{from_names}
