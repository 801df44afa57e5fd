use Rattle.std.proofs.Common.{ap, ◌∙◌}
use Rattle.meaning_graph.specs.Going.{start, run}
use Rattle.meaning_graph.proofs.Runs.{graph_run}
use Rattle.meaning_graph.proofs.Fronts.{whole_from_run}
use Rattle.meaning_graph.proofs.text_laws.whole_is_tested.Goals as goal

pub returns : goal.returns
returns c = λ tokens low. (whole_from_run tokens low, λ g. ap (run start) g.is ∙ graph_run g.decls g.spelled.spellable)
