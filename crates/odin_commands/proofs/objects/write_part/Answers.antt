use Rattle.odin_commands.proofs.Written.{adds_behind}
use Rattle.odin_commands.proofs.objects.write_part.Goals as goal

pub returns : goal.returns
returns c =
    let count = rw (c.as_slice.ensures, c.len.ensures) at c.in_ok-write_counted.ensures in
    adds_behind c.write_line.result c.args.out.now c.write_counted.new.out c.write_line.new.out _ _ count (rw c.as_slice-2.ensures at c.write_line.ensures)
