use Rattle.std.proofs.Common.{◌++◌, refl}
use Rattle.meaning_graph.specs.Types.{is_a}
use Rattle.meaning_graph.specs.Samples.{c_units, kits}
use Rattle.meaning_graph.specs.Spelling.{graph_spelling}
use Rattle.meaning_graph.specs.Checks.{has_fault, first_fault}
use Rattle.meaning_graph.specs.TextExamples.{c_units_text, kits_lines}
use Rattle.meaning_graph.proofs.Samples.{spelling_if, text_if}
use Rattle.meaning_graph.proofs.text_examples.canonical_graphs.Goals as goal

pub returns : goal.returns
unfolding graph_spelling first_fault has_fault is_a
returns c = record {
  written = refl;
  read = text_if c_units_text c_units (spelling_if c_units refl refl refl) refl;
  kits_written = refl;
  kits_read = text_if (c_units_text ++ kits_lines) kits (spelling_if kits refl refl refl) refl;
}
