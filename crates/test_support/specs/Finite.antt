-- Only nodes of the table have results.
use Rattle.std.proofs.Common.{◌≡◌, Bool, true, false, cond, [], ◌∷◌, inl, inr, refl}
use Rattle.std.specs.Prelude.{Some}
use Rattle.object_values.specs.declared.nodes.Node.{Node}
use Rattle.object_values.specs.declared.views.View.{View}
use Rattle.object_values.specs.contracts.nodes.NodePartialEq.TheImpl.{ghosts as node_eq}
use Rattle.object_values.specs.Exact.{node_exact}
use Rattle.meaning_texts.specs.Lists.{IsIn}
use Rattle.meaning_tasks.specs.Maps.{HasOnly}
use Rattle.test_support.specs.Tables.{ViewEntries, table_results, table_nodes}

by_test : (n m : Node) (found view : View) (entries : ViewEntries) → (table_results entries n ≡ Some view → IsIn n (table_nodes entries)) → (b : Bool) → node_eq.eq n m ≡ b
    → cond b (Some found) (table_results entries n) ≡ Some view → IsIn n (m ∷ table_nodes entries)
by_test n m found view entries below true same h = inl ((node_exact n m).0 same)
by_test n m found view entries below false same h = inr (below h)

pub only_table_nodes : (entries : ViewEntries) → HasOnly (table_results entries) (table_nodes entries)
only_table_nodes [] n view h = cc
only_table_nodes ((m, found) ∷ entries) n view h = by_test n m found view entries (only_table_nodes entries n view) (node_eq.eq n m) refl h
