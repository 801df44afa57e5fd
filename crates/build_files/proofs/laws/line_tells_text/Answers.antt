use Rattle.build_files.proofs.MessageLemmas.{tells_text}
use Rattle.build_files.proofs.laws.line_tells_text.Goals as goal

pub returns : goal.returns
returns c = λ m n are also same. tells_text m.text n.text are also same
