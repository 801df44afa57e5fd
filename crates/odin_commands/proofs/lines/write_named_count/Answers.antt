use Rattle.std.proofs.Common.{codes, decimal}
use Rattle.odin_commands.proofs.Written.{adds_behind, adds_same, spread}
use Rattle.odin_commands.proofs.lines.write_named_count.Goals as goal

pub returns : goal.returns
returns c = adds_same c.write_counted.result c.args.out.now c.write_counted.new.out _ _ (spread c.args.word.now c.args.name.now (codes " ") (decimal c.args.count))
    (adds_behind c.write_counted.result c.args.out.now c.extend_from_slice.new.self c.write_counted.new.out c.args.word.now _ c.in_ok-extend_from_slice.ensures.ok c.write_counted.ensures)
