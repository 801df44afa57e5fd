-- The lemmas that other crates may cite.
-- Results by height, and under more outcomes.
pub use Rattle.meaning_derive.proofs.Steps.{SameResults, same_values, same_settled, settle_moves, IsStep, step_so, so_step, known_stay, above_grows, derive_grows, derive_more, grows_by, grows_to}
pub use Rattle.meaning_derive.proofs.Stay.{kept}
pub use Rattle.meaning_derive.proofs.Enough.{enough}
-- What a result says of the needs.
pub use Rattle.meaning_derive.proofs.Present.{names_reached, needs_at, needs_listed}
pub use Rattle.meaning_derive.proofs.Heights.{as_settled, from_settled, settles_again, need_at_limit, need_below, one_above}
pub use Rattle.meaning_derive.proofs.Carry.{settles_to, none_by_need, called, none_by_call, one_run}
pub use Rattle.meaning_derive.proofs.Above.{height_above}
-- As more outcomes come.
pub use Rattle.meaning_derive.proofs.HeightsStay.{height_stays, same_height, frontier_stays}
-- Where chains lead.
pub use Rattle.meaning_derive.proofs.Lower.{nothing_at_zero, falls, IsEnd, chain_end, sources_are_there}
pub use Rattle.meaning_derive.proofs.Falling.{none_refused}
-- The calls and the sources of a founded node.
pub use Rattle.meaning_derive.proofs.Known.{known, no_frontier, none_come}
pub use Rattle.meaning_derive.proofs.CallsByNeeds.{calls_by_needs}
pub use Rattle.meaning_derive.proofs.SameSources.{sources_enough}
-- Chains, and nodes that have none.
pub use Rattle.meaning_derive.proofs.Founded.{chain_on, runs_stay, no_chain, result_call_or_chain, founded_or_chained}
-- Views have a value exactly where their status is not `Abort`.
pub use Rattle.meaning_derive.proofs.Sound.{runs_on, IsSoundOwn, IsSoundView, IsSoundTask, task_sound, own_sound, settled_sound, derived_sound, valued_exactly}
-- Results over a checked graph.
pub use Rattle.meaning_derive.proofs.Maps.{needs_fit, map_at, fitting_map}
pub use Rattle.meaning_derive.proofs.Formed.{calls_formed}
pub use Rattle.meaning_derive.proofs.Shapes.{kinded}
-- Over any map of results.
pub use Rattle.meaning_derive.proofs.Over.{met_fit, listed_fit, short_at, elements_at, formed_over, settles_well}
-- Answers and plans.
pub use Rattle.meaning_derive.proofs.Answers.{each_answered, each_planned}
pub use Rattle.meaning_derive.proofs.Exact.{not_refused, one_node, founded_shown, others_chained, one_refusal, one_plan, one_answer}
