-- Maps of results: what the results of the nodes of a graph are like.
use Rattle.std.specs.Prelude.{◌≡◌, ◌↔◌, ⊤, ℕ, List, map, Some, None}
use Rattle.object_values.specs.declared.messages.Status.TheVariants.{Abort}
use Rattle.object_values.specs.declared.nodes.Node.{Node}
use Rattle.object_values.specs.declared.views.Value.{Value}
use Rattle.object_values.specs.declared.views.Value.TheVariants.{Simple, List as Listed, Compound}
use Rattle.object_values.specs.declared.views.View.{View}
use Rattle.object_values.specs.declared.graph.Kind.{Kind}
use Rattle.object_values.specs.declared.graph.Kind.TheVariants.{Simple as SimpleKind, List as ListKind, Compound as CompoundKind}
use Rattle.meaning_graph.specs.Graphs.{Text, Graph, type_named, kind_of}
use Rattle.meaning_texts.specs.Lists.{IsIn}
use Rattle.meaning_graph.specs.Types.{IsA}
use Rattle.meaning_tasks.specs.Nodes.{Fits, reached_type}
use Rattle.meaning_tasks.specs.Needs.{Results}

-- An element that fits, and whose type is the element type.
pub record IsElementOf (g : Graph) (of : Text) (e : Node) : Type 0 where
  pub fits : Fits g e
  pub type : ℕ
  pub typed : reached_type g e ≡ Some type
  pub named : ℕ
  pub element : type_named g of ≡ Some named
  pub is : IsA g type named

-- The value is of the kind.
abbrev pub IsOfKind : Graph → Kind → Value → Type 0
IsOfKind g SimpleKind (Simple text) = ⊤
IsOfKind g (ListKind of) (Listed elements) = (e : Node) → IsIn e elements → IsElementOf g of e
IsOfKind g (CompoundKind declared) (Compound parts) =
    map (λ p. p.name) parts ≡ map (λ p. p.name) declared
IsOfKind g kind value = ⊥

-- A view of a node that fits: it has a value exactly where its status isn't `Abort`, and one of the
-- node's kind.
pub record IsResultOf (g : Graph) (n : Node) (view : View) : Type 0 where
  pub fits : Fits g n
  pub valued : (view.value ≡ None) ↔ (view.status ≡ Abort)
  pub kind : (t : ℕ) (k : Kind) (v : Value) → reached_type g n ≡ Some t → kind_of g t ≡ Some k
      → view.value ≡ Some v → IsOfKind g k v

-- Each result is a view of a node that fits.
abbrev pub IsResultMap : Graph → Results → Type 0
IsResultMap g seen = (n : Node) (view : View) → seen n ≡ Some view → IsResultOf g n view

-- It has results of these nodes alone.
abbrev pub HasOnly : Results → List Node → Type 0
HasOnly seen nodes = (n : Node) (view : View) → seen n ≡ Some view → IsIn n nodes
