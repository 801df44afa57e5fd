use Rattle.std.proofs.Common.{◌∙◌, arith}
use Rattle.kept_tables.specs.declared.live_sizes.LiveSize.{LiveSize}
use Rattle.kept_tables.proofs.SizeLemmas.{put_counted}
use Rattle.kept_tables.proofs.live_sizes.LiveSize.add_source.Goals as goal

pub returns : goal.returns
returns c =
    let new : LiveSize = record { table = c.number_text.new.table; added = c.number_text.new.added; items = c.in_ok-self.field-0 } in
    let made = c.in_ok-number_text.ensures in
    let whole = c.in_ok-self.ensures in
    let put = c.in_ok-size_of_put.ensures in
    let none = made.contents ∙ c.requires.none in
    put_counted c.args.self.now new c.number_text.new.table.contents none (record { none = none; held = made.held }) c.args.name.now c.args.text.now
    c.in_ok-number_text.field-0 (rw made.contents made.adds) made.number (omega (arith, whole, put))
