use Rattle.meaning_commands.proofs.Exact.{one_command}
use Rattle.meaning_commands.proofs.laws.line_is_one_command.Goals as goal

pub returns : goal.returns
returns c = one_command
