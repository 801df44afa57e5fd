use Rattle.kept_contents.specs.Stocks.{values_of_contents}
use Rattle.kept_contents.proofs.table.ContentTable.reserve.Goals as goal

pub invariant_of-self-in_err-reserve-2 : goal.invariant_of-self-in_err-reserve-2
invariant_of-self-in_err-reserve-2 c = rw c.reserve.ensures.items (c.self.invariant.0, c.self.invariant.1, c.reserve-2.ensures.same (values_of_contents c.self.inside.contents.items) c.self.invariant.2)

pub invariant_of-self-2 : goal.invariant_of-self-2
invariant_of-self-2 c = rw c.reserve.ensures.items (c.self.invariant.0, c.self.invariant.1, c.reserve-2.ensures.same (values_of_contents c.self.inside.contents.items) c.self.invariant.2)
