use Rattle.odin_real.proofs.Given.{cause_of}
use Rattle.odin_real.proofs.tree.FolderTreeTree.read.Goals as goal

pub returns-in-Err-clause-cause : goal.returns-in-Err-clause-cause
returns-in-Err-clause-cause g c = cause_of c.in-Err.fault c.counted.result _ _ c.counted.ensures.fault c.counted.ensures.counted c.counted.ensures.later
