use Rattle.std.proofs.Common.{refl}
use Rattle.meaning_graph.specs.Suffixes.{source_type}
use Rattle.meaning_graph.specs.Types.{is_a}
use Rattle.meaning_graph.specs.Paths.{chosen_path}
use Rattle.meaning_graph.proofs.examples.paths_of_units.Goals as goal

pub returns : goal.returns
unfolding chosen_path is_a source_type
returns c = record { empty = refl; none = refl; whole = refl; around = refl }
