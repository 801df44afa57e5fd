use Rattle.odin_shell.proofs.CrashLemmas.{images_hold_ours}
use Rattle.odin_shell.proofs.laws.images_hold_calls_of_asks.Goals as goal

pub returns : goal.returns
returns g c = images_hold_ours _
