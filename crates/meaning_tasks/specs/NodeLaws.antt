-- What the laws of nodes say.
use Rattle.std.specs.Prelude.{◌≡◌, ◌↔◌, ◌<◌, ℕ, Some, IsTrue, decimal}
use Rattle.object_values.specs.declared.nodes.Node.{Node}
use Rattle.object_values.specs.declared.expressions.Expression.{Expression}
use Rattle.meaning_texts.specs.Expressions.{IsCanonical}
use Rattle.meaning_graph.specs.Graphs.{Text, Graph}
use Rattle.meaning_graph.specs.Types.{IsA}
use Rattle.meaning_tasks.specs.Nodes.{Fits, fits, reached_type, onward, element_number}
use Rattle.meaning_texts.specs.Limits.{element_bound}
use Rattle.meaning_tasks.specs.NodeOf.{is_node, node_of}

-- The test decides which nodes fit.
abbrev pub FitsIsDecided : Type 0
FitsIsDecided = (g : Graph) (n : Node) → IsTrue (fits g n) ↔ Fits g n

-- The node of a canonical expression fits, and so that of every expression that is read.
abbrev pub MadeNodesFit : Type 0
MadeNodesFit =
    (g : Graph) (e : Expression) (n : Node) → IsCanonical e → node_of g e ≡ is_node n → Fits g n

-- A node that fits, and whose type is the one that was asked for.
pub record IsLedTo (g : Graph) (n : Node) (to : ℕ) (m : Node) : Type 0 where
  pub fits : Fits g m
  pub type : ℕ
  pub typed : reached_type g m ≡ Some type
  pub is : IsA g type to

-- A node that is led on by the chosen path from one that fits does so too.
abbrev pub OnwardFits : Type 0
OnwardFits =
    (g : Graph) (n m : Node) (to : ℕ) → Fits g n → onward g n to ≡ Some m → IsLedTo g n to m

-- A key is the number of an element where it is written so, without leading zeros, from 1 and below
-- the bound.
pub record IsNumberOf (key : Text) (k : ℕ) : Type 0 where
  pub written : key ≡ decimal k
  pub some : 0 < k
  pub small : k < element_bound

abbrev pub ElementNumbers : Type 0
ElementNumbers = (key : Text) (k : ℕ) → (element_number key ≡ Some k) ↔ IsNumberOf key k
