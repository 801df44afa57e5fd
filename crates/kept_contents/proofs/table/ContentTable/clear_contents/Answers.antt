use Rattle.std.proofs.lemmas.List.Elements.{All-nil}
use Rattle.kept_contents.specs.Stocks.{IsHeldIn}
use Rattle.kept_contents.proofs.Numbers.{numbered_cleared}
use Rattle.kept_contents.proofs.table.ContentTable.clear_contents.Goals as goal

pub invariant_of-self : goal.invariant_of-self
invariant_of-self c =
    rw (c.clear-2.ensures.items, c.clear_numbers.ensures)
    (numbered_cleared c.self.inside.texts c.self.inside.numbers.items c.self.invariant.0.long, All-nil (IsHeldIn c.self.inside.texts), c.clear.ensures.index)
