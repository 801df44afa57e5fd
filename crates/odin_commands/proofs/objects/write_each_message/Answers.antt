use Rattle.odin_commands.proofs.Written.{front_stays, fails}
use Rattle.odin_commands.proofs.objects.write_each_message.Goals as goal

pub returns-in_err-write_message : goal.returns-in_err-write_message
returns-in_err-write_message c =
    fails c.from_residual.result c.args.out.now c.write_message.new.out _ c.from_residual.ensures.0
    (front_stays c.args.out.now _ c.loop-message.out c.write_message.new.out c.loop-message.invariant c.in_err-write_message.ensures)
