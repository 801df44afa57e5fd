use Rattle.request_parser.proofs.ListLemmas.{none_read, spaces_read, item_read}
use Rattle.request_parser.proofs.cursor.Cursor.read_items.Goals as goal

pub items-init : goal.items-init
items-init c = record { read = rw (c.requires.no_params, c.requires.no_steps) (none_read c.run.result.now c.args.self.now c.run.new.self c.run.ensures); past = c.run.ensures.past }

pub items-preserved : goal.items-preserved
items-preserved c =
    let read = item_read c.in_ok-item.item c.args.self.now c.items.self c.item.new.self c.items.found c.put.new.self c.items.invariant.read c.in_ok-item.ensures.ok c.in_ok-put.ensures in
    record { read = spaces_read c.args.self.now c.item.new.self c.run-in-items.result.now c.run-in-items.new.self c.put.new.self.params.items c.put.new.self.steps read c.run-in-items.ensures; past = c.run-in-items.ensures.past }
