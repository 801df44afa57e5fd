use Rattle.std.proofs.Common.{◌≡◌, take}
use Rattle.std.specs.List.{flat_map, fold}
use Rattle.std.specs.Hash.FoldHasher as folding
use Rattle.kept_contents.specs.Inputs.{AreHeldParts, part_fed}
use Rattle.kept_contents.proofs.inputs.hash_parts.Given as goal

abbrev pub invariant-loop-part : goal.invariant-loop-part
invariant-loop-part l =
    AreHeldParts l.table.texts (take l.part-index l.parts)
    × (l.state ≡ fold folding.write folding.initial (flat_map (part_fed l.table.texts) (take l.part-index l.parts)))
