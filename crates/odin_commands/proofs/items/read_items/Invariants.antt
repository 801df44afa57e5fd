use Rattle.std.proofs.Common.{◌≡◌, length}
use Rattle.odin_commands.proofs.ItemLemmas.{Begins}
use Rattle.odin_commands.proofs.items.read_items.Given as goal

abbrev pub invariant-items : goal.invariant-items
invariant-items g l = record { begun : Begins g.T.Item.spelled g.T.Item.IsGood l.fn.text l.items l.rest; many : length l.items ≡ l.counter }
