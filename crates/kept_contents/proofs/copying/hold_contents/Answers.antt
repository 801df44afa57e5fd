use Rattle.std.proofs.Common.{◌<◌, ◌∙◌, length, arith}
use Rattle.kept_contents.proofs.Contents.{grown_twice}
use Rattle.kept_contents.proofs.CopyLemmas.{held_more, held_next}
use Rattle.kept_contents.proofs.copying.hold_contents.Goals as goal

pub loop-content-preserved : goal.loop-content-preserved
loop-content-preserved c =
    let contents = c.args.contents.now in
    let here = c.content-item.result in
    let within : c.loop-content.content-index < length contents = omega arith in
    let before = c.loop-content.invariant in
    let made = c.in_ok-hold_value.ensures in
    let shared = c.in_ok-hold_value.field-0 in
    record {
      same = held_next contents c.loop-content.content-index here within c.content-item.is c.loop-content.shared.items c.push.new.self.items shared
          (made.same ∙ c.in_ok-value.ensures) before.same c.in_ok-push.ensures.items;
      held = held_more c.loop-content.table.texts c.hold_value.new.table.texts c.loop-content.shared.items c.push.new.self.items shared made.grown
          before.held made.held c.in_ok-push.ensures.items;
      contents = made.contents ∙ before.contents;
      grown = grown_twice c.args.table.now.texts c.loop-content.table.texts c.hold_value.new.table.texts before.grown made.grown;
    }
