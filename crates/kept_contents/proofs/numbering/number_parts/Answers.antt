use Rattle.std.proofs.Common.{◌<◌, ◌∙◌, length, arith}
use Rattle.kept_contents.specs.Stocks.{values_of_contents}
use Rattle.kept_contents.proofs.Batched.{parts_step, parts_adds}
use Rattle.kept_contents.proofs.Contents.{grown_twice}
use Rattle.kept_contents.proofs.numbering.number_parts.Goals as goal

pub loop-part-preserved : goal.loop-part-preserved
loop-part-preserved c =
    let here = c.part-item.result in
    let within : c.loop-part.part-index < length c.args.parts.now = omega arith in
    let made = c.in_ok-number_part.ensures in (
      parts_step c.args.parts.now c.loop-part.part-index here within c.part-item.is c.loop-part.table.contents c.number_part.new.table.contents c.loop-part.added c.number_part.new.added c.loop-part.stored c.push.new.self c.in_ok-number_part.field-0 made.contents made.adds c.loop-part.invariant.0 made.part c.in_ok-push.ensures.ok,
      parts_adds c.args.parts.now c.loop-part.part-index here within c.part-item.is c.args.table.now.contents c.loop-part.table.contents (values_of_contents c.args.added.now) (values_of_contents c.loop-part.added) (values_of_contents c.number_part.new.added) c.loop-part.invariant.3 c.loop-part.invariant.1 made.adds,
      made.held,
      made.contents ∙ c.loop-part.invariant.3,
      grown_twice c.args.table.now.texts c.loop-part.table.texts c.number_part.new.table.texts c.loop-part.invariant.4 made.texts,
    )
