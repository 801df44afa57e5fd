use Rattle.std.proofs.Common.{◌≡◌, ◌+◌, ◌≤◌, take}
use Rattle.std.specs.Prelude.{sum_by}
use Rattle.odin_journal.specs.Rewrites.{record_size}
use Rattle.odin_journal.proofs.rewrite.size_of_copy.Given as goal

-- the size of the records so far, and of a closed gate
abbrev pub invariant-loop-record : goal.invariant-loop-record
invariant-loop-record l = record {
  so_far : l.size ≡ sum_by record_size (take l.record-index l.records) + 1;
  fits : l.size ≤ 1073741824;
}
