-- Nodes: the base of a node, the type to which its steps lead, and the nodes that fit a graph.
use Rattle.std.specs.Prelude.{ℕ, Bool, true, cond, ◌&&◌, nat_lt, List, [], ◌∷◌, ◌++◌, map, Option, Some, None, is_some, IsSome, ⊤, bytes_eq, find, slice_get, decimal, option_map, option_and_then, All}
use Rattle.std.specs.List.{list_all}
use Rattle.std.specs.Str.Parse.{digits_value}
use Rattle.object_values.specs.declared.nodes.Step.{Step}
use Rattle.object_values.specs.declared.nodes.Step.TheVariants.{Maker, Pick}
use Rattle.object_values.specs.declared.nodes.Node.{Node}
use Rattle.object_values.specs.declared.graph.Kind.{Kind}
use Rattle.object_values.specs.declared.graph.Kind.TheVariants.{List as ListOf, Compound}
use Rattle.meaning_texts.specs.Classes.{IsName, IsKey}
use Rattle.meaning_texts.specs.Expressions.{IsParamOfClass}
use Rattle.meaning_texts.specs.Limits.{element_bound}
use Rattle.meaning_texts.specs.Tests.{is_name, is_key, is_param_of_class}
use Rattle.meaning_graph.specs.Graphs.{Text, Graph, makers, type_named, kind_of}
use Rattle.meaning_graph.specs.Suffixes.{source_type}
use Rattle.meaning_graph.specs.Paths.{made_of, chosen_path}

-- the source node of a name, without parameters
abbrev pub source_node : Text → Node
source_node name = record { source = name; params = []; steps = [] }

abbrev pub before_last : List Step → List Step
before_last [] = []
before_last (s ∷ []) = []
before_last (s ∷ t ∷ steps) = s ∷ before_last (t ∷ steps)

abbrev pub last_step : List Step → Option Step
last_step [] = None
last_step (s ∷ []) = Some s
last_step (s ∷ t ∷ steps) = last_step (t ∷ steps)

-- the node without its last step
abbrev pub base_of : Node → Node
base_of n = record n { steps = before_last n.steps }

-- the node with one more step
abbrev pub node_with_step : Node → Step → Node
node_with_step n s = record n { steps = n.steps ++ s ∷ [] }

-- the node further along these makers
abbrev pub extended : Node → List ℕ → Node
extended n path = record n { steps = n.steps ++ map Maker path }

-- ---- the number of an element

-- the key is the number k from 1, without leading zeros
abbrev pub is_number : ℕ → Text → Bool
is_number k key = bytes_eq (decimal k) key && nat_lt 0 k && nat_lt k element_bound

-- the number that the key is
abbrev pub element_number : Text → Option ℕ
element_number key = cond (is_number (digits_value 10 key) key) (Some (digits_value 10 key)) None

-- ---- types of nodes

-- the type of what a key picks from an object of the kind
abbrev pub picked_type : Graph → Text → Option Kind → Option ℕ
picked_type g key (Some (ListOf of)) = cond (is_some (element_number key)) (type_named g of) None
picked_type g key (Some (Compound parts)) =
    option_and_then (λ p. type_named g p.of) (find (λ p. bytes_eq p.name key) parts)
picked_type g key other = None

-- the type after a step that can be applied to the type t
abbrev pub step_type : Graph → ℕ → Step → Option ℕ
step_type g t (Maker k) = option_and_then (made_of g t) (slice_get (makers g) k)
step_type g t (Pick key) = picked_type g key (kind_of g t)

abbrev pub type_after : Graph → Option ℕ → List Step → Option ℕ
type_after g None steps = None
type_after g (Some t) [] = Some t
type_after g (Some t) (s ∷ steps) = type_after g (step_type g t s) steps

-- the type to which all steps lead, where each can be applied to the type before it
unfoldable pub reached_type : Graph → Node → Option ℕ
reached_type g n = type_after g (Some (source_type g n.source)) n.steps

-- the node further along the chosen path from its own type
abbrev pub onward : Graph → Node → ℕ → Option Node
onward g n to =
    option_and_then (λ t. option_map (extended n) (chosen_path g t to)) (reached_type g n)

-- the same by the name of a type
abbrev pub onward_named : Graph → Node → Text → Option Node
onward_named g n to = option_and_then (onward g n) (type_named g to)

-- ---- nodes that fit

-- a key is of its class
abbrev pub HasKeyOfClass : Step → Type 0
HasKeyOfClass (Maker k) = ⊤
HasKeyOfClass (Pick key) = IsKey key

-- Its names, values and keys are of their classes, and each step can be applied to the type before
-- it.
pub record Fits (g : Graph) (n : Node) : Type 0 where
  pub source : IsName n.source
  pub params : All IsParamOfClass n.params
  pub keys : All HasKeyOfClass n.steps
  pub typed : IsSome (reached_type g n)

abbrev pub has_key_of_class : Step → Bool
has_key_of_class (Maker k) = true
has_key_of_class (Pick key) = is_key key

-- whether a node fits
abbrev pub fits : Graph → Node → Bool
fits g n =
    is_name n.source && list_all is_param_of_class n.params && list_all has_key_of_class n.steps
    && is_some (reached_type g n)

-- the type of a node that fits, and none of another
abbrev pub type_of : Graph → Node → Option ℕ
type_of g n = cond (fits g n) (reached_type g n) None
