use Rattle.std.proofs.Common.{◌++◌, ◌∷◌, []}
use Rattle.kept_contents.specs.declared.shared.Content.TheVariants.{Other}
use Rattle.kept_contents.specs.Index.{IsIndexed}
use Rattle.kept_contents.specs.Stocks.{values_of_contents}
use Rattle.kept_contents.proofs.Contents.{held_push, values_push}
use Rattle.kept_contents.proofs.Numbers.{pushed_other}
use Rattle.kept_contents.proofs.table.ContentTable.push_other.Goals as goal

pub invariant_of-self : goal.invariant_of-self
invariant_of-self c =
    let items = c.self.inside.contents.items in
    let texts = c.self.inside.texts in
    let value = c.args.value in
    let now = c.push_within.ensures.items in
    let indexed : IsIndexed (values_of_contents items ++ value ∷ []) c.add.new.self = rw c.as_slice.ensures.value at c.add.ensures.index in (
      rw (now, values_push items (Other value)) (pushed_other (values_of_contents items) texts c.self.inside.numbers.items c.self.invariant.0 value c.requires.other),
      rw now (held_push texts items (Other value) c.self.invariant.1 c.requires.other),
      rw (now, values_push items (Other value)) indexed,
    )
