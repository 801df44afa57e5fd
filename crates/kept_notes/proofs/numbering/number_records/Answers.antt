use Rattle.std.proofs.Common.{◌<◌, ◌∙◌, length, arith}
use Rattle.std.specs.Prelude.{Some}
use Rattle.object_values.specs.declared.facts.Fresh.{Fresh}
use Rattle.meaning_records.specs.Batches.{fact_values}
use Rattle.kept_contents.specs.Added.{contents_with}
use Rattle.kept_contents.specs.Stocks.{values_of_contents}
use Rattle.kept_contents.proofs.Lemmas.{grown_twice}
use Rattle.kept_notes.proofs.NumberLemmas.{each_adds, notes_step, records_step}
use Rattle.kept_notes.proofs.numbering.number_records.Goals as goal

pub loop-node-preserved : goal.loop-node-preserved
loop-node-preserved c =
    let fresh = c.args.fresh.now in
    let here = c.node-item.result in
    let within : c.loop-node.node-index < length fresh = omega arith in
    let made = c.in_ok-record.ensures in
    let before = c.loop-node.invariant in (
      records_step fresh c.loop-node.node-index here within c.node-item.is c.loop-node.table.contents c.number_record.new.table.contents (fact_values here.fact)
          c.loop-node.added c.number_record.new.added c.loop-node.stored c.push-in-loop-node.new.self c.in_ok-record.record made.contents made.adds
          before.0 made.stored c.in_ok-push-2.ensures.ok,
      notes_step fresh c.loop-node.node-index here within c.node-item.is (Some c.args.epoch) (contents_with c.loop-node.table.contents c.loop-node.added)
          c.loop-node.stored c.push-in-loop-node.new.self
          c.loop-node.notes.items c.push.new.self.items c.in_ok-record.record c.in_ok-noted_record.field-0 before.0 before.1
          c.in_ok-noted_record.ensures c.in_ok-push-2.ensures.ok c.in_ok-push.ensures.items,
      each_adds fresh c.loop-node.node-index here within c.node-item.is (λ (f : Fresh). fact_values f.fact) c.args.table.now.contents c.loop-node.table.contents
          (values_of_contents c.args.added.now) (values_of_contents c.loop-node.added) (values_of_contents c.number_record.new.added) before.4
          before.2 made.adds,
      made.held,
      made.contents ∙ before.4,
      grown_twice c.args.table.now.texts c.loop-node.table.texts c.number_record.new.table.texts before.5 made.texts,
    )
