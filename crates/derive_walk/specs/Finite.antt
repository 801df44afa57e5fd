-- That a table has finitely many results.
use Rattle.std.proofs.Common.{◌≡◌, Bool, true, false, cond, [], ◌∷◌, inl, inr, refl, subst}
use Rattle.std.specs.Prelude.{⊤, Option, Some, None, option_map}
use Rattle.object_values.specs.declared.nodes.Node.{Node}
use Rattle.object_values.specs.contracts.nodes.NodePartialEq.TheImpl.{ghosts as node_eq}
use Rattle.object_values.specs.Exact.{node_exact}
use Rattle.object_values.specs.declared.views.View.{View}
use Rattle.meaning_texts.specs.Lists.{IsIn}
use Rattle.meaning_tasks.specs.Maps.{HasOnly}
use Rattle.derive_walk.specs.declared.done.Done.{Done}
use Rattle.derive_walk.specs.Tables.{Entries, done_in, results_of, done_nodes}

abbrev HasNoView : Option View → Type 0
HasNoView None = ⊤
HasNoView (Some view) = ⊥

by_test : (entries : Entries) (n m : Node) (d : Done) (view : View) → (results_of entries n ≡ Some view → IsIn n (done_nodes entries)) → (b : Bool) → node_eq.eq n m ≡ b → option_map (λ d. d.view) (cond b (Some d) (done_in entries n)) ≡ Some view → IsIn n (done_nodes ((m, d) ∷ entries))
by_test entries n m d view below true e h = inl ((node_exact n m).0 e)
by_test entries n m d view below false e h = inr (below h)

-- only nodes of the table have results
pub only_nodes : (entries : Entries) → HasOnly (results_of entries) (done_nodes entries)
only_nodes [] n view e = absurd (subst HasNoView e tt)
only_nodes ((m, d) ∷ entries) n view e =
    by_test entries n m d view (only_nodes entries n view) (node_eq.eq n m) refl e
