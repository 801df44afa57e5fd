use Rattle.std.proofs.Common.{◌∙◌, arith}
use Rattle.kept_tables.specs.declared.live_sizes.LiveSize.{LiveSize}
use Rattle.kept_tables.proofs.SizeLemmas.{call_counted}
use Rattle.kept_tables.proofs.live_sizes.LiveSize.add_call.Goals as goal

pub returns : goal.returns
returns c =
    let new : LiveSize = record { table = c.count_outputs.new.table; added = c.count_outputs.new.added; items = c.in_ok-self.field-0 } in
    let first = c.in_ok-parts.ensures in
    let second = rw c.as_slice-outputs.ensures at c.in_ok-outputs.ensures in
    let both = c.in_ok-sum.ensures in
    let three = c.in_ok-sum-2.ensures in
    let whole = c.in_ok-self.ensures in
    let rest = c.in_ok-rest.ensures in
    let same = first.contents in
    let none = second.contents ∙ same ∙ c.requires.none in
    call_counted c.args.self.now new c.args.self.now.table.contents c.requires.none (record { none = none; held = second.held }) c.count_parts.new.added
    c.args.head.now c.args.parts.now c.args.outcome.now c.in_ok-parts.parts c.in_ok-outputs.outputs first.adds (rw same at first.parts) (rw same at second.adds)
    (rw (second.contents, same) at second.outputs) (omega (arith, both, three, whole, rest))
