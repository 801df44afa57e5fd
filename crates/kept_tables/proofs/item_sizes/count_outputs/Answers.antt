use Rattle.std.proofs.Common.{[], ◌<◌, ◌∙◌, length, refl, arith}
use Rattle.kept_contents.specs.Stocks.{values_of_contents}
use Rattle.kept_contents.proofs.Lemmas.{outputs_adds}
use Rattle.kept_tables.proofs.SizeLemmas.{outputs_next}
use Rattle.kept_tables.proofs.item_sizes.count_outputs.Goals as goal

pub loop-output-init : goal.loop-output-init
loop-output-init c = record { outputs = ([], tt, refl); adds = refl; held = c.requires; contents = refl }

pub loop-output-preserved : goal.loop-output-preserved
loop-output-preserved c =
    let outputs = c.args.outputs.now in
    let here = c.output-item.result in
    let within : c.loop-output.output-index < length outputs = omega arith in
    let counted = c.in_ok-count_output.ensures in
    let before = c.loop-output.invariant in
    record {
      outputs = outputs_next outputs c.loop-output.output-index here within c.output-item.is c.loop-output.table.contents c.count_output.new.table.contents
          c.loop-output.added c.count_output.new.added counted.contents counted.adds c.loop-output.size c.in_ok-count_output.field-0 c.in_ok-size.size
          before.outputs counted.output c.in_ok-size.ensures;
      adds = outputs_adds outputs c.loop-output.output-index here within c.output-item.is c.args.table.now.contents c.loop-output.table.contents
          (values_of_contents c.args.added.now) (values_of_contents c.loop-output.added) (values_of_contents c.count_output.new.added) before.contents
          before.adds counted.adds;
      held = counted.held;
      contents = counted.contents ∙ before.contents;
    }
