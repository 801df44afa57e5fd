use Rattle.meaning_texts.proofs.References.{references_said, said_references}
use Rattle.meaning_texts.proofs.laws.references_are_said.Goals as goal

pub returns : goal.returns
returns c = λ text said. (references_said text said, said_references text said)
