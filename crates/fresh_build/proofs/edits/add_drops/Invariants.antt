use Rattle.std.proofs.Common.{◌≡◌, ◌++◌, take}
use Rattle.std.specs.FinMap.{entries}
use Rattle.fresh_build.specs.Edits.{changes_of, drops_to}
use Rattle.fresh_build.proofs.edits.add_drops.Given as goal

abbrev pub invariant-sources : goal.invariant-sources
invariant-sources l = changes_of l.edits ≡ changes_of l.fn.edits ++ drops_to l.wanted.texts (take l.place (entries l.old.texts))
