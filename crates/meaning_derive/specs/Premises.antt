-- What results are like.
use Rattle.std.specs.Prelude.{◌≡◌, ⊤, ◌≤◌, length, cond, Some, None}
use Rattle.object_values.specs.declared.nodes.Node.{Node}
use Rattle.object_values.specs.declared.views.Part.{Part}
use Rattle.object_values.specs.declared.views.Value.{Value}
use Rattle.object_values.specs.declared.views.Value.TheVariants.{Simple, List as Listed, Compound}
use Rattle.object_values.specs.declared.views.View.{View}
use Rattle.meaning_texts.specs.Limits.{body_limit}
use Rattle.meaning_graph.specs.Graphs.{Graph}
use Rattle.meaning_texts.specs.Lists.{IsIn}
use Rattle.meaning_tasks.specs.Nodes.{Fits, fits}
use Rattle.meaning_tasks.specs.Needs.{Results}
use Rattle.meaning_tasks.specs.Maps.{IsResultOf}

-- no body of the value is longer than the limit
abbrev pub IsShort : Value → Type 0
IsShort (Simple text) = length text ≤ body_limit
IsShort (Listed elements) = ⊤
IsShort (Compound parts) = (p : Part) → IsIn p parts → length p.body ≤ body_limit

-- the results of the nodes that fit alone
abbrev pub fitting : Graph → Results → Results
fitting g seen n = cond (fits g n) (seen n) None

-- Of a node that fits each result is a view of it.
abbrev pub IsMapOverFitting : Graph → Results → Type 0
IsMapOverFitting g seen =
    (n : Node) (view : View) → Fits g n → seen n ≡ Some view → IsResultOf g n view
