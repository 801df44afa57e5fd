use Rattle.std.proofs.Common.{◌≡◌, List, map, take}
use Rattle.std.specs.Prelude.{All}
use Rattle.object_values.specs.declared.items.Item.{Item}
use Rattle.meaning_records.specs.Records.{item}
use Rattle.meaning_records.specs.States.{spell_batch}
use Rattle.kept_tables.proofs.live_batches.write_batches.Given as goal

abbrev pub invariant-loop-items : goal.invariant-loop-items
invariant-loop-items l = record {
  payloads : l.payloads ≡ map spell_batch (take l.items-index l.batches);
  fits : All (λ (items : List Item). All item.fits items) (take l.items-index l.batches);
}
