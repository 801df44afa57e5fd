use Rattle.std.proofs.Common.{arith, ◌≡◌}
use Rattle.std.proofs.lemmas.Grind.{common_steps}
use Rattle.object_values.proofs.sources.Sources.copy.Goals as goal

pub invariant_of-result : goal.invariant_of-result
invariant_of-result c =
    let items_are : c.loop-block.blocks.items ≡ c.self.inside.blocks.items = grind (arith, common_steps) in
    rw items_are (record { sorted = c.self.invariant.sorted; filled = c.self.invariant.filled; counted = c.self.invariant.counted; spared = tt })
