use Rattle.std.proofs.Common.{◌≡◌, take}
use Rattle.kept_contents.specs.Stocks.{values_of_contents}
use Rattle.kept_tables.specs.Batching.{contents_text}
use Rattle.kept_tables.proofs.live_sizes.size_of_contents.Given as goal

abbrev pub invariant-loop-content : goal.invariant-loop-content
invariant-loop-content l = l.size ≡ contents_text (values_of_contents (take l.content-index l.contents))
