use Rattle.build_files.proofs.MessageLemmas.{tells_message}
use Rattle.build_files.proofs.laws.labelled_line_tells_message.Goals as goal

pub returns : goal.returns
returns c = tells_message
