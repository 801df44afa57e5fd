use Rattle.std.proofs.Common.{sym, subst}
use Rattle.meaning_commands.specs.Commands.{Spells}
use Rattle.meaning_commands.proofs.Exact.{spelled, spells}
use Rattle.meaning_commands.proofs.laws.command_is_exact.Goals as goal

pub returns : goal.returns
returns c = λ line command. (spelled line command, λ e. subst (Spells line) (sym e) (spells line))
