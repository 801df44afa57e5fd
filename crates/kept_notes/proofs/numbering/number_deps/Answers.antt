use Rattle.std.proofs.Common.{◌<◌, ◌∙◌, length, arith}
use Rattle.object_values.specs.declared.facts.FactDep.{FactDep}
use Rattle.meaning_records.specs.Batches.{value_list}
use Rattle.kept_contents.specs.Stocks.{values_of_contents}
use Rattle.kept_contents.proofs.Lemmas.{grown_twice}
use Rattle.kept_notes.proofs.NumberLemmas.{deps_step, each_adds}
use Rattle.kept_notes.proofs.numbering.number_deps.Goals as goal

pub loop-dep-preserved : goal.loop-dep-preserved
loop-dep-preserved c =
    let deps = c.args.deps.now in
    let here = c.dep-item.result in
    let within : c.loop-dep.dep-index < length deps = omega arith in
    let made = c.in_ok-number_dep.ensures in
    let before = c.loop-dep.invariant in (
      deps_step deps c.loop-dep.dep-index here within c.dep-item.is c.loop-dep.table.contents c.number_dep.new.table.contents (value_list here.value)
          c.loop-dep.added c.number_dep.new.added c.loop-dep.stored c.push.new.self c.in_ok-number_dep.field-0 made.contents made.adds before.0
          made.dep c.in_ok-push.ensures.ok,
      each_adds deps c.loop-dep.dep-index here within c.dep-item.is (λ (d : FactDep). value_list d.value) c.args.table.now.contents c.loop-dep.table.contents
          (values_of_contents c.args.added.now) (values_of_contents c.loop-dep.added) (values_of_contents c.number_dep.new.added) before.3 before.1 made.adds,
      made.held,
      made.contents ∙ before.3,
      grown_twice c.args.table.now.texts c.loop-dep.table.texts c.number_dep.new.table.texts before.4 made.texts,
    )
