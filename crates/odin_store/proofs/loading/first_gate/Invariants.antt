use Rattle.std.proofs.Common.{◌≡◌, ◌-◌, take}
use Rattle.odin_store.specs.Loading.{records_size}
use Rattle.odin_store.proofs.loading.first_gate.Given as goal

-- the place is before the records so far
abbrev pub invariant-loop-record : goal.invariant-loop-record
invariant-loop-record l = l.gate ≡ l.end - records_size (take l.record-index l.records)
