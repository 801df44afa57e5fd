use Rattle.std.proofs.Common.{◌∙◌, ap}
use Rattle.std.specs.Hash.FoldHasher as folding
use Rattle.kept_contents.specs.Heads.{hash_of, fed_of, head_of}
use Rattle.kept_contents.proofs.IndexLemmas.{fed_from}
use Rattle.kept_contents.proofs.head.hash_head.Goals as goal

pub returns : goal.returns
unfolding hash_of
returns c = c.finish.ensures ∙ ap folding.finish (fed_from folding.write folding.initial c.default-state.result c.feed_head.new.state (fed_of (head_of c.args.call.now)) c.default-state.ensures c.feed_head.ensures)
