use Rattle.std.proofs.Common.{◌∙◌, ap}
use Rattle.std.specs.List.{fold}
use Rattle.content_store.specs.Digesting as digesting
use Rattle.object_values.specs.contracts.nodes.NodeHash.TheImpl.{ghosts as node_hash}
use Rattle.kept_records.specs.NodeMarks.{digest_of}
use Rattle.kept_records.proofs.sought.digest_node.Goals as goal

pub returns : goal.returns
unfolding digest_of
returns c = c.digest.ensures ∙ ap digesting.digest (c.hash.ensures ∙ ap (λ s. fold digesting.write s (node_hash.hash_input c.args.node.now)) c.default-state.ensures)
