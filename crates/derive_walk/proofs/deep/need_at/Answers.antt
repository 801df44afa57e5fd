use Rattle.std.proofs.Common.{ap, ◌∙◌}
use Rattle.derive_walk.specs.Tables.{of_height}
use Rattle.derive_walk.specs.Settings.{world_in}
use Rattle.derive_walk.specs.States.{heights_in}
use Rattle.derive_walk.proofs.deep.need_at.Goals as goal

pub returns-in-None : goal.returns-in-None
returns-in-None g c = λ unchecked. record {
  unchecked = unchecked;
  needs = c.in_ok-needs.needs;
  listed = c.in_ok-needs.ensures (world_in g.K.Known.keeps c.args.setting.now).graph c.args.node.now c.in_ok-needed.ensures;
  is = c.in-None.ensures ∙ ap (λ l. of_height (heights_in c.args.walk.now) c.args.height l) c.as_slice.ensures;
}
