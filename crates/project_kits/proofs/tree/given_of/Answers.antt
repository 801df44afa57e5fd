use Rattle.project_kits.proofs.TreeLemmas.{cut_result}
use Rattle.project_kits.proofs.tree.given_of.Goals as goal

pub returns : goal.returns
returns c = cut_result c.from_slice.result c.as_slice-body.result.now _ c.min.result c.from_slice.ensures c.min.ensures c.as_slice-body.ensures
