use Rattle.std.proofs.Common.{◌≡◌, take}
use Rattle.std.specs.List.{flat_map}
use Rattle.object_values.specs.declared.facts.FactDep.{FactDep}
use Rattle.meaning_records.specs.Batches.{value_list}
use Rattle.kept_contents.specs.Added.{AddsAll, AreHeld, contents_with}
use Rattle.kept_contents.specs.Stocks.{IsGrownFrom, values_of_contents}
use Rattle.kept_notes.specs.Numbered.{AreNumberedDeps}
use Rattle.kept_notes.proofs.numbering.number_deps.Given as goal

abbrev pub invariant-loop-dep : goal.invariant-loop-dep
invariant-loop-dep l =
    AreNumberedDeps (contents_with l.table.contents l.added) l.stored (take l.dep-index l.deps)
    × AddsAll l.fn.table.contents (flat_map (λ (d : FactDep). value_list d.value) (take l.dep-index l.deps)) (values_of_contents l.fn.added)
    (values_of_contents l.added)
    × AreHeld l.table.texts l.added
    × (l.table.contents ≡ l.fn.table.contents)
    × IsGrownFrom l.fn.table.texts l.table.texts
