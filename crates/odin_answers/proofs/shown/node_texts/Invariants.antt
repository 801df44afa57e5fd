use Rattle.std.proofs.Common.{◌≡◌, take, map}
use Rattle.meaning_tasks.specs.Labels.{node_text}
use Rattle.odin_answers.proofs.shown.node_texts.Given as goal

abbrev pub invariant-nodes : goal.invariant-nodes
invariant-nodes l = l.texts ≡ map (node_text l.graph) (take l.node-index l.nodes)
