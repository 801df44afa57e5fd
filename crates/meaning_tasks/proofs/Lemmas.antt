-- The lemmas that other crates may cite.
-- Nodes that fit, and how they are made.
pub use Rattle.meaning_tasks.proofs.Fits.{name_so, key_so, param_so, fits_so, so_fits}
pub use Rattle.meaning_tasks.proofs.Made.{type_after-append, type_after_none, path_type, onward_fits, onward_named_fits, last_split, HasBase, base_fits, made_fits}
-- Keys that are numbers.
pub use Rattle.meaning_tasks.proofs.Numbers.{element_numbers}
-- Reached names.
pub use Rattle.meaning_tasks.proofs.Sorted.{cmp_same, names_sorted, in_sorted, from_sorted, same_names}
pub use Rattle.meaning_tasks.proofs.Reached.{reached_moved, reached_grows, one_list, has_in, in_has, among_reached, all_reached}
-- Needs by their roles.
pub use Rattle.meaning_tasks.proofs.Roles.{tool_counted, tool_reached, tool_needs_are, tool_counted_are, tool_reached_are, picked_needs_are, picked_counted_are, picked_reached_are, packed_needs_are, packed_counted_are, packed_reached_are, needs_split, counted_in_needs, reached_in_needs, in_tool_counted, in_tool_reached, from_tool_needs}
-- Needs, calls and values under other results.
pub use Rattle.meaning_tasks.proofs.Local.{same_flat, same_map, same_all, counted_local, list_local, names_stay, computed_local, valued_local, call_local, own_local, local, one_list_of_needs}
pub use Rattle.meaning_tasks.proofs.Grow.{need_stays}
pub use Rattle.meaning_tasks.proofs.Finite.{finite_has_needs}
-- What a node with steps gives, whatever the sources hold.
pub use Rattle.meaning_tasks.proofs.AnySources.{source_task, task_free, own_by_source, settles_over_any}
-- One map in place of another.
pub use Rattle.meaning_tasks.proofs.Carry.{same_values, same_settled, view_moves, one_call, carry, full_agree, full_needs_stay}
-- What has a value.
pub use Rattle.meaning_tasks.proofs.Valued.{IsValued, in_where, from_where, where_same, stays, valued_is_some, valued_stays, where_grows, part_grows, values_grow}
-- The nodes of a reference list.
pub use Rattle.meaning_tasks.proofs.Reading.{from_kept, references_canonical}
