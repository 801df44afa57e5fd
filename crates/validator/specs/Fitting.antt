-- Which records fit a graph.
use Rattle.std.specs.Prelude.{◌≡◌, ℕ, Bool, true, false, ◌&&◌, List, [], ◌∷◌, Option, Some, None, bytes_eq, unwrap_or, All}
use Rattle.std.specs.List.{list_all}
use Rattle.object_values.specs.declared.views.Part.{Part}
use Rattle.object_values.specs.declared.views.Value.{Value}
use Rattle.object_values.specs.declared.views.Value.TheVariants.{Simple, List as Listed, Compound}
use Rattle.object_values.specs.declared.facts.FactDep.{FactDep}
use Rattle.object_values.specs.declared.facts.Fact.{Fact}
use Rattle.object_values.specs.declared.graph.PartDecl.{PartDecl}
use Rattle.object_values.specs.declared.graph.Kind.{Kind}
use Rattle.object_values.specs.declared.graph.Kind.TheVariants.{Simple as SimpleKind, List as ListKind, Compound as CompoundKind}
use Rattle.meaning_graph.specs.Graphs.{Graph, type_named, kind_of}
use Rattle.meaning_graph.specs.Types.{is_a}
use Rattle.meaning_tasks.specs.Nodes.{Fits, fits, reached_type, type_of}
use Rattle.meaning_tasks.specs.Maps.{IsOfKind}
use Rattle.odin_nodes.specs.Kinds.{declared_at}

-- Its node and those of its deps fit the graph, and where it has a value, that is of the kind of
-- its node's type.
pub record FactFits (g : Graph) (fact : Fact) : Type 0 where
  pub node : Fits g fact.node
  pub deps : All (λ (d : FactDep). Fits g d.node) fact.deps
  pub kind : (t : ℕ) (k : Kind) (v : Value) → reached_type g fact.node ≡ Some t → kind_of g t ≡ Some k
      → fact.value ≡ Some v → IsOfKind g k v

-- ---- the same as a test

-- an object of the one type serves as one of the other, where both are there
abbrev pub serves : Graph → Option ℕ → Option ℕ → Bool
serves g (Some named) (Some type) = is_a g type named
serves g named type = false

-- these names, in this order
abbrev pub are_named : List Part → List PartDecl → Bool
are_named [] [] = true
are_named [] (d ∷ declared) = false
are_named (p ∷ parts) [] = false
are_named (p ∷ parts) (d ∷ declared) = bytes_eq p.name d.name && are_named parts declared

abbrev pub is_of_kind : Graph → Kind → Value → Bool
is_of_kind g SimpleKind (Simple text) = true
is_of_kind g (ListKind of) (Listed elements) =
    list_all (λ e. serves g (type_named g of) (type_of g e)) elements
is_of_kind g (CompoundKind declared) (Compound parts) = are_named parts declared
is_of_kind g kind value = false

-- the kind, where `text`, which isn't declared, is simple
abbrev pub kind_or_simple : Option Kind → Kind
kind_or_simple kind = unwrap_or kind SimpleKind

abbrev pub value_fits : Graph → ℕ → Option Value → Bool
value_fits g t None = true
value_fits g t (Some v) = is_of_kind g (kind_or_simple (declared_at g t)) v

abbrev pub fits_typed : Graph → Fact → Option ℕ → Bool
fits_typed g fact None = false
fits_typed g fact (Some t) =
    value_fits g t fact.value && list_all (λ (d : FactDep). fits g d.node) fact.deps

-- whether a record fits
abbrev pub fact_fits : Graph → Fact → Bool
fact_fits g fact = fits_typed g fact (type_of g fact.node)
