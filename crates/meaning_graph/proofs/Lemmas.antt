-- The lemmas that other crates may cite.
-- Types, by number and by name.
pub use Rattle.meaning_graph.proofs.Types.{below, length-below, in_below, numbers, super_numbered, is_a_so, so_is_a, is_a_chain}
pub use Rattle.meaning_graph.proofs.Paths.{named_below}
-- The suffix that gives a source its type.
pub use Rattle.meaning_graph.proofs.Suffixes.{found_passes, suffix_longest, one_suffix}
-- Paths and the chosen one.
pub use Rattle.meaning_graph.proofs.Order.{AtMost, at_most_chain, at_most_behind, before_chain, not_before_itself}
pub use Rattle.meaning_graph.proofs.Routes.{Route, short_route}
pub use Rattle.meaning_graph.proofs.Paths.{edge_makes, makes_edge, path_chosen, one_chosen}
-- The tokens of a text.
pub use Rattle.meaning_graph.proofs.Tokens.{begins_told, SameToken, one_token, begins_past_gap}
pub use Rattle.meaning_graph.proofs.Lexed.{begins_from, gap_read}
pub use Rattle.meaning_graph.proofs.Readings.{tokens_append, Before, read_before, past_is_past, past_read, gap_shorter, begins_shorter, tokens_short}
pub use Rattle.meaning_graph.proofs.Stops.{one_gap}
-- Tokens that can go on to a graph.
pub use Rattle.meaning_graph.proofs.Runs.{graph_run, run_append}
pub use Rattle.meaning_graph.proofs.Fronts.{front_from_going, going_from_front, whole_from_run}
-- The graph of a text, or the place of its fault.
pub use Rattle.meaning_graph.proofs.Answered.{answered, fault_by, no_graph_at, no_graph_without}
pub use Rattle.meaning_graph.proofs.Spelled.{spelled}
pub use Rattle.meaning_graph.proofs.Faults.{one_graph, one_fault, one_line, each_begins}
-- The first fault of a list of declarations.
pub use Rattle.meaning_graph.proofs.CheckedGraphs.{checked_in_grammar, checked_has_spelling}
pub use Rattle.meaning_graph.proofs.Firsts.{first_or_checked, OneFault, one_first}
pub use Rattle.meaning_graph.proofs.Named.{named_so, so_named}
