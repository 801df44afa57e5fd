use Rattle.std.proofs.Common.{◌∙◌, arith}
use Rattle.kept_tables.specs.declared.live_sizes.LiveSize.{LiveSize}
use Rattle.kept_tables.proofs.SizeLemmas.{record_counted}
use Rattle.kept_tables.proofs.live_sizes.LiveSize.add_record.Goals as goal

pub returns : goal.returns
returns c =
    let new : LiveSize = record { table = c.number_record.new.table; added = c.number_record.new.added; items = c.in_ok-self.field-0 } in
    let made = c.in_ok-stored.ensures in
    let long = c.in_ok-size_of.ensures in
    let one = c.in_ok-size.ensures in
    let whole = c.in_ok-self.ensures in
    let none = made.contents ∙ c.requires.fresh.none in
    record_counted c.args.self.now new c.number_record.new.table.contents none (record { none = none; held = made.held }) c.args.fresh.now c.in_ok-stored.stored
    (rw made.contents made.adds) made.stored (omega (arith, long, one, whole))
