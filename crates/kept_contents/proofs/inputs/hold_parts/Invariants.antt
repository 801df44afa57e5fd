use Rattle.std.proofs.Common.{◌≡◌, take}
use Rattle.std.specs.List.{flat_map, fold}
use Rattle.std.specs.Hash.FoldHasher as folding
use Rattle.kept_contents.specs.Inputs.{AreHeldParts, part_fed}
use Rattle.kept_contents.specs.Stocks.{IsGrownFrom}
use Rattle.kept_contents.proofs.inputs.hold_parts.Given as goal

abbrev pub invariant-loop-part : goal.invariant-loop-part
invariant-loop-part l =
    AreHeldParts l.table.texts (take l.part-index l.parts)
    × (l.state ≡ fold folding.write folding.initial (flat_map (part_fed l.table.texts) (take l.part-index l.parts)))
    × (l.table.contents ≡ l.fn.table.contents)
    × IsGrownFrom l.fn.table.texts l.table.texts
