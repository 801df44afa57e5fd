use Rattle.meaning_commands.proofs.Lemmas.{one_command}
use Rattle.meaning_commands.proofs.Lemmas.{one_cut}
use Rattle.odin_shell.specs.Language.{commands}
use Rattle.odin_shell.proofs.laws.input_is_cut_once.Goals as goal

pub returns : goal.returns
returns c = one_cut commands one_command
