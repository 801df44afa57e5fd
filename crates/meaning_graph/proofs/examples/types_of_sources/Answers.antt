use Rattle.std.proofs.Common.{refl}
use Rattle.meaning_graph.specs.Suffixes.{source_type}
use Rattle.meaning_graph.specs.Types.{is_a}
use Rattle.meaning_graph.specs.Paths.{chosen_path}
use Rattle.meaning_graph.proofs.examples.types_of_sources.Goals as goal

pub returns : goal.returns
unfolding chosen_path is_a source_type
returns c = record { short = refl; long = refl; other = refl; whole = refl }
