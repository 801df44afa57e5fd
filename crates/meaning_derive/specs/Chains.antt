-- Chains of nodes, each a need of the one before.
use Rattle.std.specs.Prelude.{◌≡◌, ⊤, ◌+◌, ◌≤◌, ◌⊎◌, List, [], ◌∷◌, ◌++◌, length}
use Rattle.object_values.specs.declared.nodes.Node.{Node}
use Rattle.meaning_texts.specs.Limits.{height_limit}
use Rattle.meaning_graph.specs.Graphs.{Graph}
use Rattle.meaning_texts.specs.Lists.{IsIn}
use Rattle.meaning_tasks.specs.Needs.{Results, Needs}

-- m is a need of n under the results
pub record IsNeed (g : Graph) (seen : Results) (n m : Node) : Type 0 where
  pub needs : List Node
  pub listed : Needs g n seen needs
  pub one : IsIn m needs

-- the nodes, each a need of the one before, and the first one of n
abbrev pub LeadsOn : Graph → Results → Node → List Node → Type 0
LeadsOn g seen n [] = ⊤
LeadsOn g seen n (m ∷ rest) = IsNeed g seen n m × LeadsOn g seen m rest

-- a list of nodes that begins with n, each a need of the one before
abbrev pub Chain : Graph → Results → Node → List Node → Type 0
Chain g seen n [] = ⊥
Chain g seen n (m ∷ rest) = (n ≡ m) × LeadsOn g seen m rest

abbrev pub AreDifferent : List Node → Type 0
AreDifferent [] = ⊤
AreDifferent (n ∷ nodes) = (IsIn n nodes → ⊥) × AreDifferent nodes

-- Its last node stands earlier in it, and nothing else is repeated.
pub record IsCircular (g : Graph) (seen : Results) (n : Node) (chain : List Node) : Type 0 where
  pub front : List Node
  pub last : Node
  pub is : chain ≡ front ++ last ∷ []
  pub leads : Chain g seen n chain
  pub different : AreDifferent front
  pub repeated : IsIn last front

-- One node more than the height limit, all different.
pub record IsDeep (g : Graph) (seen : Results) (n : Node) (chain : List Node) : Type 0 where
  pub leads : Chain g seen n chain
  pub long : length chain ≡ height_limit + 1
  pub different : AreDifferent chain

-- a chain for which a node is refused
abbrev pub IsRefusal : Graph → Results → Node → List Node → Type 0
IsRefusal g seen n chain = IsCircular g seen n chain ⊎ IsDeep g seen n chain

-- m is met from n: a chain of no more nodes leads there
pub record IsMet (g : Graph) (seen : Results) (n m : Node) : Type 0 where
  pub front : List Node
  pub leads : Chain g seen n (front ++ m ∷ [])
  pub short : length front ≤ height_limit
