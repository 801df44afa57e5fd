use Rattle.std.proofs.Common.{◌≡◌, false, take}
use Rattle.std.specs.List.{list_any}
use Rattle.project_file.specs.Patterns.{fits}
use Rattle.project_folder.proofs.listing.some_fits.Given as goal

abbrev pub invariant-loop-pattern : goal.invariant-loop-pattern
invariant-loop-pattern l = list_any (λ p. fits p l.path) (take l.pattern-index l.patterns) ≡ false
