use Rattle.std.proofs.Common.{◌∙◌, ap}
use Rattle.std.specs.List.{fold}
use Rattle.std.specs.Hash.FoldHasher as folding
use Rattle.object_values.specs.contracts.nodes.NodeHash.TheImpl.{ghosts as node_hash}
use Rattle.kept_records.specs.NodeMarks.{hash_of}
use Rattle.kept_records.proofs.sought.hash_node.Goals as goal

pub returns : goal.returns
unfolding hash_of
returns c = c.finish.ensures ∙ ap folding.finish (c.hash.ensures ∙ ap (λ s. fold folding.write s (node_hash.hash_input c.args.node.now)) c.default-state.ensures)
