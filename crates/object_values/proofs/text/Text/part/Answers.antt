use Rattle.std.specs.Rc.{rc_slice_items}
use Rattle.object_values.proofs.TextLemmas.{part_of_text}
use Rattle.object_values.proofs.text.Text.part.Goals as goal

pub returns : goal.returns
returns c =
    part_of_text (rc_slice_items c.self.inside.buffer) (rc_slice_items c.in_ok-clone.field-0) c.args.self.now c.self.inside.from c.self.inside.to
    c.args.from c.args.to c.in_ok-clone.ensures.cases c.self.view_is c.requires.from c.requires.to
