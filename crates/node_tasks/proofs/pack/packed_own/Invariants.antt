use Rattle.std.proofs.Common.{◌≡◌, take, map, flat_map}
use Rattle.meaning_tasks.specs.Tasks.{pack_part, led_missing}
use Rattle.meaning_tasks.specs.Needs.{values_of}
use Rattle.meaning_tasks.specs.Settle.{part_body}
use Rattle.node_tasks.proofs.pack.packed_own.Given as goal

abbrev pub invariant-loop-part : goal.invariant-loop-part
invariant-loop-part g l = record {
  bodies_are : l.bodies ≡ flat_map (part_body (values_of (g.R.Results.results l.seen))) (map (pack_part l.planned l.node) (take l.part-index l.parts));
  missing_are : l.missing ≡ led_missing (map (λ p. p.led) (map (pack_part l.planned l.node) (take l.part-index l.parts)));
}
