use Rattle.std.proofs.Common.{◌<◌, ap, length, arith}
use Rattle.odin_commands.proofs.ItemLemmas.{begins_none, no_items}
use Rattle.odin_commands.proofs.items.read_items.Goals as goal

pub items-init : goal.items-init
items-init g c = record {
  begun = begins_none g.T.Item.spelled g.T.Item.IsGood c.args.text.now c.new-items.result c.new-items.ensures;
  many = ap length c.new-items.ensures;
}

pub returns-in_default : goal.returns-in_default
returns-in_default g c =
    let fewer : length c.items.items < c.args.count = omega arith in
    no_items g.T.Item.spelled g.T.Item.IsGood c.requires c.args.text.now c.items.items c.items.rest.now c.args.count c.items.invariant.begun fewer
    (rw c.in_default.is at c.in_ok-item.ensures)
