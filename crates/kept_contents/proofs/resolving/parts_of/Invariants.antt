use Rattle.std.proofs.Common.{◌≡◌, take}
use Rattle.std.specs.List.{flat_map, fold}
use Rattle.std.specs.Hash.FoldHasher as folding
use Rattle.meaning_records.specs.Tables.{ArePartsOf}
use Rattle.kept_contents.specs.Inputs.{AreHeldParts, part_fed}
use Rattle.kept_contents.proofs.resolving.parts_of.Given as goal

abbrev pub invariant-loop-part : goal.invariant-loop-part
invariant-loop-part l =
    ArePartsOf l.table.contents (take l.part-index l.stored) l.parts
    × AreHeldParts l.table.texts l.parts
    × (l.state ≡ fold folding.write folding.initial (flat_map (part_fed l.table.texts) l.parts))
