-- What a table of nodes with their views answers.
use Rattle.std.specs.Prelude.{◌≡◌, cond, List, Some}
use Rattle.std.specs.Map.{keys_of, lookup}
use Rattle.object_values.specs.declared.nodes.Node.{Node}
use Rattle.object_values.specs.declared.views.View.{View}
use Rattle.object_values.specs.contracts.nodes.NodePartialEq.TheImpl.{ghosts as node_eq}
use Rattle.meaning_tasks.specs.Needs.{Results}

abbrev pub ViewEntries : Type 0
ViewEntries = List (Node × View)

abbrev pub table_results : ViewEntries → Results
table_results entries n = lookup (node_eq.eq n) entries

abbrev pub table_nodes : ViewEntries → List Node
table_nodes entries = keys_of entries

-- the new entries have this view of the node, and of each other node what the old ones have
abbrev pub PutsView : Node → View → ViewEntries → ViewEntries → Type 0
PutsView n view old new =
    (m : Node) → table_results new m ≡ cond (node_eq.eq n m) (Some view) (table_results old m)
