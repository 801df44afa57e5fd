-- What is found of nodes.
use Rattle.std.specs.Prelude.{◌≡◌, ℕ, cond, List, [], ◌∷◌, ◌++◌, Option, is_some}
use Rattle.object_values.specs.declared.nodes.Node.{Node}
use Rattle.derive_walk.specs.declared.survey.Survey.{Survey}
use Rattle.derive_walk.specs.Tables.{Entries, Waits, heights_of, top_of, are_done}

-- the nodes without a height
abbrev pub unvisited_in : (Node → Option ℕ) → List Node → List Node
unvisited_in heights [] = []
unvisited_in heights (n ∷ nodes) =
    cond (is_some (heights n)) (unvisited_in heights nodes) (n ∷ unvisited_in heights nodes)

-- what is found of these nodes
abbrev pub survey_of : Entries → Waits → List Node → Survey
survey_of done waits nodes = record {
  top = top_of (heights_of done waits) nodes;
  done = are_done done nodes;
  unvisited = unvisited_in (heights_of done waits) nodes;
}

-- After any nodes before, these are taken in.
abbrev pub TakesInNodes : Entries → Waits → List Node → Survey → Survey → Type 0
TakesInNodes done waits nodes old new =
    (before : List Node) → old ≡ survey_of done waits before
    → new ≡ survey_of done waits (before ++ nodes)
