use Rattle.std.proofs.Common.{refl}
use Rattle.std.specs.Fmt.{digits}
use Rattle.meaning_texts.specs.Reading.{expression_of, kept_params}
use Rattle.meaning_graph.specs.Suffixes.{source_type}
use Rattle.meaning_graph.specs.Types.{is_a}
use Rattle.meaning_graph.specs.Paths.{chosen_path}
use Rattle.meaning_tasks.specs.Nodes.{reached_type}
use Rattle.meaning_tasks.specs.NodeOf.{node_of}
use Rattle.meaning_tasks.proofs.node_examples.refusals.Goals as goal

pub returns : goal.returns
unfolding digits expression_of kept_params source_type is_a chosen_path reached_type node_of
returns c = record { param = refl; type = refl; path = refl; first_step = refl; pick_of_simple = refl; leading_zero = refl; zero = refl; past_all = refl }
