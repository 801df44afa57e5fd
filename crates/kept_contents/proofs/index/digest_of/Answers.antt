use Rattle.std.proofs.Common.{◌∙◌, ap}
use Rattle.content_store.specs.Digesting as digesting
use Rattle.kept_contents.specs.Index.{digest_of, value_fed}
use Rattle.kept_contents.proofs.IndexLemmas.{fed_from}
use Rattle.kept_contents.proofs.index.digest_of.Goals as goal

pub returns : goal.returns
unfolding digest_of
returns c = c.digest.ensures ∙ ap digesting.digest (fed_from digesting.write digesting.initial c.default-state.result c.feed.new.state (value_fed c.args.value.now) c.default-state.ensures c.feed.ensures)
