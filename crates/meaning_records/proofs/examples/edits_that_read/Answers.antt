use Rattle.std.proofs.Common.{refl, ap, arith, is_some, codes, Some, [], ◌∷◌}
use Rattle.std.specs.FinMap as map
use Rattle.object_values.specs.Texts.{no_texts}
use Rattle.object_values.specs.Gets.{put_here}
use Rattle.object_values.specs.declared.views.Value.TheVariants.{Simple, List as Listed}
use Rattle.meaning_texts.specs.Classes.{is_name_byte}
use Rattle.meaning_texts.proofs.Lemmas.{word_decides}
use Rattle.object_values.specs.declared.items.Item.TheVariants.{Graph, Content, Put, Dropped}
use Rattle.meaning_records.specs.ItemExamples.{old, with_contents, with_sources, node}
use Rattle.meaning_records.proofs.Alone.{alone}
use Rattle.meaning_records.proofs.examples.edits_that_read.Goals as goal

pub returns : goal.returns
returns c = record {
  graph = alone old (Graph (codes "g")) (record { tables = old.tables; sources = old.sources; graph = Some (codes "g"); noted = [] }) (record { loads = refl; edits = refl; graph = refl; ground = tt; noted = refl });
  content = alone old (Content (Simple (codes "x=1"))) (with_contents (Simple (codes "x=1"))) (record { loads = (omega arith, refl); edits = refl; graph = refl; ground = tt; noted = refl });
  list = alone old (Content (Listed (node ∷ []))) (with_contents (Listed (node ∷ []))) (record { loads = (tt, refl); edits = refl; graph = refl; ground = tt; noted = refl });
  put = alone old (Put (codes "b.c") 0) (with_sources (map.insert old.sources (codes "b.c") (codes "x=1")))
      (record { loads = ((word_decides is_name_byte (codes "b.c")).0 refl, (codes "x=1", refl), refl); edits = (codes "x=1", refl, refl); graph = refl; ground = tt; noted = refl });
  drop = alone old (Dropped (codes "a.c")) (with_sources (map.remove old.sources (codes "a.c")))
      (record { loads = ((word_decides is_name_byte (codes "a.c")).0 refl, refl); edits = (ap is_some (put_here no_texts (codes "a.c") (codes "x=1")), refl); graph = refl; ground = tt; noted = refl });
}
