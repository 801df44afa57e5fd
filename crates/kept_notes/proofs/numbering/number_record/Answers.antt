use Rattle.std.proofs.Common.{◌∙◌, refl, subst, sym}
use Rattle.std.specs.Prelude.{List}
use Rattle.std.specs.List.{flat_map}
use Rattle.object_values.specs.declared.facts.FactDep.{FactDep}
use Rattle.object_values.specs.declared.views.Value.{Value}
use Rattle.meaning_records.specs.Batches.{value_list}
use Rattle.meaning_records.specs.Tables.{IsValueOf}
use Rattle.kept_contents.specs.Added.{contents_with}
use Rattle.kept_notes.proofs.NumberLemmas.{record_is, value_stays}
use Rattle.kept_notes.proofs.numbering.number_record.Goals as goal

pub returns-clause-stored : goal.returns-clause-stored
returns-clause-stored c =
    let fact = c.args.fresh.now.fact in
    let first = c.number_optional.new in
    let last = c.number_deps.new in
    let contents = contents_with last.table.contents last.added in
    let value = subst (λ (l : List Value). IsValueOf (contents_with l last.added) c.in_ok-value.value fact.value) (sym c.number_deps.ensures.contents)
    (value_stays first.table.contents (flat_map (λ (d : FactDep). value_list d.value) fact.deps) first.added last.added
    (rw c.as_slice-2.ensures at c.in_ok-deps.ensures.adds) c.in_ok-value.value fact.value c.in_ok-value.ensures.number) in
    record_is contents _ c.args.fresh.now c.requires.last c.in_ok-copy.ensures
    (rw c.as_slice-2.ensures at c.in_ok-deps.ensures.deps)
    (rw c.as_slice.ensures at c.in_ok-reached.ensures)
    value refl (c.in_ok-copy_messages.ensures ∙ c.as_slice-3.ensures) refl (c.in_ok-copy_messages-2.ensures ∙ c.as_slice-4.ensures) refl
