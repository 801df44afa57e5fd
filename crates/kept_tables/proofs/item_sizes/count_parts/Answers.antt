use Rattle.std.proofs.Common.{[], ◌<◌, ◌∙◌, length, refl, arith}
use Rattle.kept_contents.specs.Stocks.{values_of_contents}
use Rattle.kept_contents.proofs.Lemmas.{parts_adds}
use Rattle.kept_tables.proofs.SizeLemmas.{parts_next}
use Rattle.kept_tables.proofs.item_sizes.count_parts.Goals as goal

pub loop-part-init : goal.loop-part-init
loop-part-init c = record { parts = ([], tt, refl); adds = refl; held = c.requires; contents = refl }

pub loop-part-preserved : goal.loop-part-preserved
loop-part-preserved c =
    let parts = c.args.parts.now in
    let here = c.part-item.result in
    let within : c.loop-part.part-index < length parts = omega arith in
    let counted = c.in_ok-count_part.ensures in
    let before = c.loop-part.invariant in
    record {
      parts = parts_next parts c.loop-part.part-index here within c.part-item.is c.loop-part.table.contents c.count_part.new.table.contents c.loop-part.added
          c.count_part.new.added counted.contents counted.adds c.loop-part.size c.in_ok-count_part.field-0 c.in_ok-size.size before.parts counted.part
          c.in_ok-size.ensures;
      adds = parts_adds parts c.loop-part.part-index here within c.part-item.is c.args.table.now.contents c.loop-part.table.contents
          (values_of_contents c.args.added.now) (values_of_contents c.loop-part.added) (values_of_contents c.count_part.new.added) before.contents before.adds
          counted.adds;
      held = counted.held;
      contents = counted.contents ∙ before.contents;
    }
