use Rattle.std.proofs.Common.{◌≡◌, [], ◌∷◌, take}
use Rattle.std.specs.Hash.{le_bytes}
use Rattle.std.specs.List.{flat_map, fold}
use Rattle.content_store.specs.Digesting as digesting
use Rattle.kept_contents.specs.Inputs.{part_fed}
use Rattle.kept_contents.proofs.inputs.digest_with_head.Given as goal

abbrev pub invariant-loop-part : goal.invariant-loop-part
invariant-loop-part l = l.state ≡ fold digesting.write (fold digesting.write digesting.initial (le_bytes 8 l.head ∷ [])) (flat_map (part_fed l.table.texts) (take l.part-index l.parts))
