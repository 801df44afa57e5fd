use Rattle.std.proofs.Common.{◌≡◌, take}
use Rattle.std.specs.List.{flat_map}
use Rattle.odin_journal.specs.Rewrites.{record_bytes}
use Rattle.odin_journal.proofs.rewrite.copy_records.Given as goal

-- the records so far
abbrev pub invariant-loop-record : goal.invariant-loop-record
invariant-loop-record l = l.copy ≡ flat_map record_bytes (take l.record-index l.records)
