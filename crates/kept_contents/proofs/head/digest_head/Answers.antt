use Rattle.std.proofs.Common.{◌∙◌, ap}
use Rattle.content_store.specs.Digesting as digesting
use Rattle.kept_contents.specs.Heads.{digest_of, fed_of, head_of}
use Rattle.kept_contents.proofs.IndexLemmas.{fed_from}
use Rattle.kept_contents.proofs.head.digest_head.Goals as goal

pub returns : goal.returns
unfolding digest_of
returns c = c.digest.ensures ∙ ap digesting.digest (fed_from digesting.write digesting.initial c.default-state.result c.feed_head.new.state (fed_of (head_of c.args.call.now)) c.default-state.ensures c.feed_head.ensures)
