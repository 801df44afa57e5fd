-- That true records saw results.
use Rattle.std.proofs.Common.{◌≡◌, Bool, true, false, cond, List, [], ◌∷◌, inl, inr, sym, ap, ◌∙◌, refl}
use Rattle.std.specs.Prelude.{Some, option_map}
use Rattle.object_values.specs.contracts.nodes.NodePartialEq.TheImpl.{ghosts as node_eq}
use Rattle.object_values.specs.Exact.{node_exact}
use Rattle.object_values.specs.declared.facts.FactDep.{FactDep}
use Rattle.object_values.specs.declared.facts.Fact.{Fact}
use Rattle.meaning_texts.specs.Lists.{IsIn}
use Rattle.meaning_graph.specs.Graphs.{Graph}
use Rattle.meaning_tasks.specs.Maps.{IsResultOf}
use Rattle.meaning_derive.specs.Derive.{Outcomes}
use Rattle.meaning_true.specs.Facts.{RecordIsTrue, DepsAreAlike, known_of_deps, view_seen}

-- what is known of a dep's node is what the dep saw
known_here : (deps : List FactDep) → DepsAreAlike deps → (d : FactDep) → IsIn d deps → known_of_deps deps d.node ≡ Some d.value
known_here [] alike d i = absurd i
known_here (x ∷ deps) alike d i = by_test (node_eq.eq d.node x.node) refl (λ there. known_here deps (λ a b j k. alike a b (inr j) (inr k)) d there)
  where
    in_rest : node_eq.eq d.node x.node ≡ false → (IsIn d deps → known_of_deps deps d.node ≡ Some d.value) → IsIn d (x ∷ deps) → known_of_deps deps d.node ≡ Some d.value
    in_rest other below (inl same) = let no : false ≡ true = sym other ∙ (node_exact d.node x.node).1 (ap (λ (y : FactDep). y.node) same) in cc
    in_rest other below (inr there) = below there

    by_test : (b : Bool) → node_eq.eq d.node x.node ≡ b → (IsIn d deps → known_of_deps deps d.node ≡ Some d.value) → cond b (Some x.value) (known_of_deps deps d.node) ≡ Some d.value
    by_test true same below = ap Some (alike x d (inl refl) i (sym ((node_exact d.node x.node).0 same)))
    by_test false other below = in_rest other below i

pub sees_results : (g : Graph) (outcomes : Outcomes) (fact : Fact) → RecordIsTrue g outcomes fact → (d : FactDep) → IsIn d fact.deps → IsResultOf g d.node (view_seen d.value)
sees_results g outcomes fact is d i = is.results d.node (view_seen d.value) (ap (option_map view_seen) (known_here fact.deps is.alike d i))
