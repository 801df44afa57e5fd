-- The lemmas that other crates may cite.
-- Calls of a list, each once, and one more or less.
pub use Rattle.derive_walk.proofs.CallLemmas.{found_in, in_found, once, taken_out, put_keeps, put_there, from_put, put_once}
-- What was found of nodes.
pub use Rattle.derive_walk.proofs.SurveyLemmas.{is_unvisited, none_unvisited}
-- What stays as more outcomes come.
pub use Rattle.derive_walk.proofs.Stays.{found_stays, right_stays, met_stays, may_stays, takes_stay}
-- What is formed.
pub use Rattle.derive_walk.proofs.Formed.{found_fits, wanted_formed, right_is_formed}
-- The nodes that a walk has looked at, and what its looks come to.
pub use Rattle.derive_walk.proofs.LookedLemmas.{looked_at, all_looked, looks_within, looks_counted, looks_deep, deep_is_few, looks_wider, looks_later, deep_later}
-- Where nothing is kept of nodes, and a new walk.
pub use Rattle.derive_walk.proofs.Starts.{none_readable, world_is, knows_nothing, new_is_right}
