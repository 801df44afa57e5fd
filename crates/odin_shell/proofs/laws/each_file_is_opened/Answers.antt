use Rattle.odin_shell.proofs.OpenedLemmas.{each_is_opened}
use Rattle.odin_shell.proofs.laws.each_file_is_opened.Goals as goal

pub returns : goal.returns
returns c = each_is_opened
