-- Which records fit, by what they tell.
use Rattle.std.specs.Prelude.{◌≡◌, ◌↔◌, IsTrue, Some}
use Rattle.object_values.specs.declared.views.View.{View}
use Rattle.object_values.specs.declared.facts.FactDep.{FactDep}
use Rattle.object_values.specs.declared.facts.Fact.{Fact}
use Rattle.meaning_texts.specs.Lists.{IsIn}
use Rattle.meaning_graph.specs.Graphs.{Graph}
use Rattle.meaning_tasks.specs.Needs.{Results}
use Rattle.meaning_tasks.specs.Maps.{IsResultMap}
use Rattle.validator.specs.Fitting.{FactFits, fact_fits}

-- The record tells the value of a result, over nodes that have results.
pub record TellsResults (seen : Results) (fact : Fact) : Type 0 where
  pub view : View
  pub result : seen fact.node ≡ Some view
  pub value : fact.value ≡ view.value
  pub deps : (d : FactDep) → IsIn d fact.deps → (view : View) × (seen d.node ≡ Some view)

-- So no record that is noted of results of a graph is one that doesn't fit.
abbrev pub ResultsFit : Type 0
ResultsFit = (g : Graph) (seen : Results) (fact : Fact) → IsResultMap g seen → TellsResults seen fact → FactFits g fact

-- Whether a record fits is tested.
abbrev pub FittingIsTested : Type 0
FittingIsTested = (g : Graph) (fact : Fact) → IsTrue (fact_fits g fact) ↔ FactFits g fact
