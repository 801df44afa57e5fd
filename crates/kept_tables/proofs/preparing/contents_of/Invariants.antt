use Rattle.std.proofs.Common.{◌≡◌, take}
use Rattle.kept_tables.specs.Holdings.{items_of_contents}
use Rattle.kept_tables.proofs.preparing.contents_of.Given as goal

abbrev pub invariant-loop-content : goal.invariant-loop-content
invariant-loop-content l = l.items ≡ items_of_contents (take l.content-index l.added)
