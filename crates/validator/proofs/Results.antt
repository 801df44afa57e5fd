-- Records that tell results of a graph fit it.
use Rattle.std.proofs.Common.{◌∙◌, sym}
use Rattle.object_values.specs.declared.facts.FactDep.{FactDep}
use Rattle.object_values.specs.declared.facts.Fact.{Fact}
use Rattle.meaning_texts.proofs.Lemmas.{all_in}
use Rattle.meaning_graph.specs.Graphs.{Graph}
use Rattle.meaning_tasks.specs.Nodes.{Fits}
use Rattle.meaning_tasks.specs.Needs.{Results}
use Rattle.meaning_tasks.specs.Maps.{IsResultMap}
use Rattle.validator.specs.Fitting.{FactFits}
use Rattle.validator.specs.FitLaws.{TellsResults}

pub results_fit : (g : Graph) (seen : Results) (fact : Fact) → IsResultMap g seen → TellsResults seen fact → FactFits g fact
results_fit g seen fact are tells = record {
  node = (are fact.node tells.view tells.result).fits;
  deps = all_in (λ (d : FactDep). Fits g d.node) fact.deps (λ d i. let r = tells.deps d i in (are d.node r.0 r.1).fits);
  kind = λ t k v typed kind value. (are fact.node tells.view tells.result).kind t k v typed kind (sym tells.value ∙ value);
}
