use Rattle.std.proofs.Common.{refl}
use Rattle.std.specs.Fmt.{digits}
use Rattle.meaning_texts.specs.Reading.{expression_of, kept_params}
use Rattle.meaning_texts.specs.References.{references, scanned_names}
use Rattle.meaning_texts.specs.Lines.{lines_of}
use Rattle.meaning_graph.specs.Suffixes.{source_type}
use Rattle.meaning_graph.specs.Types.{is_a}
use Rattle.meaning_graph.specs.Paths.{chosen_path}
use Rattle.meaning_tasks.specs.Nodes.{reached_type}
use Rattle.meaning_tasks.specs.NodeOf.{node_of}
use Rattle.meaning_tasks.specs.Tasks.{task_of}
use Rattle.meaning_tasks.specs.Reached.{reached_names}
use Rattle.meaning_tasks.proofs.examples.line_parameters.Goals as goal

pub returns : goal.returns
unfolding digits expression_of kept_params references scanned_names lines_of source_type is_a chosen_path reached_type node_of task_of reached_names
returns c = record { sorted = refl; values = refl }
