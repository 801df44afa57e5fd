use Rattle.std.proofs.Common.{◌≡◌, arith}
use Rattle.std.specs.Prelude.{None, Some, slice_get}
use Rattle.std.proofs.lemmas.Grind.{common_steps}
use Rattle.std.proofs.lemmas.Option.{gets}
use Rattle.kept_contents.specs.declared.shared.Content.TheVariants.{Other, Text}
use Rattle.kept_contents.proofs.IndexLemmas.{none_stands, other_there, text_there}
use Rattle.kept_contents.proofs.index.is_number.Goals as goal

pub returns-in-Some-Other : goal.returns-in-Some-Other
returns-in-Some-Other c =
    let at : slice_get c.args.contents.now c.args.number ≡ Some (Other c.in-Some-Other.other) = grind (arith, common_steps, gets) in
    other_there c.args.contents.now c.args.number c.args.value.now c.requires.other c.requires.number c.in-Some-Other.other c.eq.result at c.eq.ensures

pub returns-in-Some-Text : goal.returns-in-Some-Text
returns-in-Some-Text c =
    let at : slice_get c.args.contents.now c.args.number ≡ Some (Text c.in-Some-Text.field-0-0) = grind (arith, common_steps, gets) in
    text_there c.args.contents.now c.args.number c.args.value.now c.requires.other c.requires.number c.in-Some-Text.field-0-0 at

pub returns-in-None : goal.returns-in-None
returns-in-None c =
    let at : slice_get c.args.contents.now c.args.number ≡ None = grind (arith, common_steps, gets) in
    none_stands c.args.contents.now c.args.number c.args.value.now c.requires.other c.requires.number at
