use Rattle.std.proofs.Common.{◌<◌, ◌∙◌, length, arith}
use Rattle.kept_contents.specs.Stocks.{values_of_contents}
use Rattle.kept_contents.proofs.Batched.{outputs_step, outputs_adds}
use Rattle.kept_contents.proofs.Contents.{grown_twice}
use Rattle.kept_contents.proofs.numbering.number_outputs.Goals as goal

pub loop-output-preserved : goal.loop-output-preserved
loop-output-preserved c =
    let here = c.output-item.result in
    let within : c.loop-output.output-index < length c.args.outputs.now = omega arith in
    let made = c.in_ok-number_output.ensures in (
      outputs_step c.args.outputs.now c.loop-output.output-index here within c.output-item.is c.loop-output.table.contents c.number_output.new.table.contents c.loop-output.added c.number_output.new.added c.loop-output.stored c.push.new.self c.in_ok-number_output.field-0 made.contents made.adds c.loop-output.invariant.0 made.output c.in_ok-push.ensures.ok,
      outputs_adds c.args.outputs.now c.loop-output.output-index here within c.output-item.is c.args.table.now.contents c.loop-output.table.contents (values_of_contents c.args.added.now) (values_of_contents c.loop-output.added) (values_of_contents c.number_output.new.added) c.loop-output.invariant.3 c.loop-output.invariant.1 made.adds,
      made.held,
      made.contents ∙ c.loop-output.invariant.3,
      grown_twice c.args.table.now.texts c.loop-output.table.texts c.number_output.new.table.texts c.loop-output.invariant.4 made.texts,
    )
