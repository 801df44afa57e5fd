use Rattle.std.proofs.Common.{◌∙◌, ap}
use Rattle.std.specs.Hash.{le_bytes}
use Rattle.std.specs.Hash.FoldHasher as folding
use Rattle.kept_contents.specs.Inputs.{hash_with_head}
use Rattle.kept_contents.proofs.inputs.hash_with_head.Goals as goal

pub returns : goal.returns
unfolding hash_with_head
returns c = c.finish.ensures ∙ ap folding.finish (c.write_u64-2.ensures ∙ ap (λ s. folding.write s (le_bytes 8 c.args.hash)) (c.write_u64.ensures ∙ ap (λ s. folding.write s (le_bytes 8 c.args.head)) c.default-state.ensures))
