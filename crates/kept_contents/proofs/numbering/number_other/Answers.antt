use Rattle.std.proofs.Common.{◌∙◌, sym}
use Rattle.kept_contents.specs.declared.shared.Content.TheVariants.{Other}
use Rattle.kept_contents.specs.Stocks.{values_of_contents}
use Rattle.kept_contents.proofs.Batched.{known_number, found_other, new_number, new_adds, no_content, not_among, on_ok}
use Rattle.kept_contents.proofs.numbering.number_other.Goals as goal

pub returns-in-Some-clause-number : goal.returns-in-Some-clause-number
returns-in-Some-clause-number c = known_number c.args.table.now.contents c.args.added.now c.args.value.now c.in-Some.number c.number_behind.result (sym c.number_of_other.ensures ∙ c.in-Some.is) c.number_behind.ensures

pub returns-in-Some-place_of_other-clause-number : goal.returns-in-Some-place_of_other-clause-number
returns-in-Some-place_of_other-clause-number c = found_other c.args.table.now.contents c.len.result c.in-Some-place_of_other.place c.len.ensures c.args.added.now c.args.value.now c.number_behind-in-Some-place_of_other.result (sym c.place_of_other.ensures ∙ c.in-Some-place_of_other.is) c.number_behind-in-Some-place_of_other.ensures

pub returns-clause-number : goal.returns-clause-number
returns-clause-number c = new_number c.args.table.now.contents c.len-2.result c.len-place.result c.len-2.ensures c.args.added.now c.push_other.new.self (Other c.in_ok-value.value) c.args.value.now c.number_behind-2.result c.in_ok-value.ensures c.in_ok-push_other.ensures.ok c.len-place.ensures c.number_behind-2.ensures

pub returns-clause-adds : goal.returns-clause-adds
returns-clause-adds c =
    let value = c.args.value.now in
    let apart = not_among (values_of_contents c.args.added.now) value (sym c.place_of_other.ensures ∙ c.in_default-place_of_other.is) in
    let none = no_content c.args.table.now.contents value (sym c.number_of_other.ensures ∙ c.in_default.is) in
    on_ok c.number_behind-2.result (new_adds c.args.table.now.contents c.args.added.now c.push_other.new.self (Other c.in_ok-value.value) value c.in_ok-value.ensures c.in_ok-push_other.ensures.ok apart none)
