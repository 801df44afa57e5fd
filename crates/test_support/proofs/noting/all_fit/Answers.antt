use Rattle.std.proofs.lemmas.List.Elements.{All-map}
use Rattle.object_values.specs.declared.facts.Fresh.{Fresh}
use Rattle.validator.specs.Fitting.{FactFits}
use Rattle.test_support.proofs.noting.all_fit.Goals as goal

pub returns : goal.returns
returns c = λ is. All-map (FactFits c.args.graph.now) (λ (f : Fresh). f.fact) c.args.fresh.now (c.each_fits.ensures is)
