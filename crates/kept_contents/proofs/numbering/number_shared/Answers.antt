use Rattle.std.proofs.Common.{refl}
use Rattle.object_values.specs.declared.views.Value.TheVariants.{Simple}
use Rattle.kept_contents.specs.declared.shared.Content.TheVariants.{Text}
use Rattle.kept_contents.proofs.Batched.{found_text, new_number, new_adds, not_added, on_ok}
use Rattle.kept_contents.proofs.numbering.number_shared.Goals as goal

pub returns-in-Some-place_of-clause-number : goal.returns-in-Some-place_of-clause-number
returns-in-Some-place_of-clause-number c = found_text c.args.table.now.contents c.len.result c.in-Some-place_of.place c.len.ensures c.args.shared.text c.args.table.now.texts c.args.added.now c.args.shared.id c.number_behind.result c.requires.added c.requires.text c.in-Some-place_of.ensures.some c.number_behind.ensures

pub returns-clause-number : goal.returns-clause-number
returns-clause-number c = new_number c.args.table.now.contents c.len-2.result c.len-place.result c.len-2.ensures c.args.added.now c.push_text.new.self (Text c.args.shared) (Simple c.args.shared.text) c.number_behind-2.result refl c.in_ok-push_text.ensures.ok c.len-place.ensures c.number_behind-2.ensures

pub returns-clause-adds : goal.returns-clause-adds
returns-clause-adds c =
    let apart = not_added c.args.table.now.texts c.args.added.now c.args.shared.text c.args.shared.id c.requires.added c.requires.text c.in_default-place_of.ensures.none in
    on_ok c.number_behind-2.result (new_adds c.args.table.now.contents c.args.added.now c.push_text.new.self (Text c.args.shared) (Simple c.args.shared.text) refl c.in_ok-push_text.ensures.ok apart c.in_default.ensures.none)
