use Rattle.std.proofs.lemmas.Result.{IfOk-weaker}
use Rattle.odin_commands.proofs.ItemLemmas.{counted_reads}
use Rattle.odin_commands.proofs.items.read_counted.Goals as goal

pub returns : goal.returns
returns g c =
    let number = c.in-Some.ensures in
    IfOk-weaker c.read_items.result _ _ (counted_reads g.T.Item.spelled g.T.Item.IsGood c.args.text.now c.in-Some.rest.now c.in-Some.count number.0 number.1) c.read_items.ensures
