use Rattle.std.proofs.Common.{rules, refl, inr, [], ◌∷◌}
use Rattle.meaning_records.specs.States.{spell_batch}
use Rattle.meaning_records.specs.ImageExamples.{graph_kept, source_kept}
use Rattle.meaning_records.proofs.Stores.{graph_payload, source_items, graph_store, source_store, graph_reads, source_reads}
use Rattle.meaning_records.proofs.examples.worked_stores.Goals as goal

pub returns : goal.returns
returns c = record {
  graph_size = search rules;
  source_size = search rules;
  blank = search rules;
  empty = search rules;
  graph = record { records = graph_payload ∷ []; stored = inr (88, graph_store); read = (graph_kept, graph_reads, refl) };
  source = record { records = graph_payload ∷ spell_batch source_items ∷ []; stored = inr (115, source_store); read = (graph_kept, graph_reads, (source_kept, source_reads, refl)) };
}
