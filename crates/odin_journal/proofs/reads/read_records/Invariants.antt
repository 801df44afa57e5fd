use Rattle.std.proofs.Common.{◌≡◌, ◌≤◌, ◌<◌, ◌-◌, ◌*◌, length}
use Rattle.odin_outside.specs.Disk.{IsQuiet}
use Rattle.meaning_records.specs.Images.{AreRecords}
use Rattle.odin_journal.specs.Moments.{IsQuietAt, Untouched}
use Rattle.odin_journal.specs.Pieces.{ReadsOn}
use Rattle.odin_journal.proofs.reads.read_records.Given as goal

-- the records so far follow each other up to the gate, the disk is as it was, and the piece begins no later than the gate
abbrev pub invariant-gates : goal.invariant-gates
invariant-gates g l = record {
  ordered : l.start ≤ l.gate;
  inside : l.gate < l.size;
  size : l.size ≡ g.D.Disk.size_of l.disk;
  same : g.D.Disk.size_of l.disk ≡ g.D.Disk.size_of l.fn.disk;
  untouched : IsQuiet (g.D.Disk.told l.fn.disk) → Untouched (g.D.Disk.told l.fn.disk) (g.D.Disk.told l.disk);
  whole : IsQuietAt (g.D.Disk.told l.fn.disk) l.size → AreRecords (g.D.Disk.told l.fn.disk).seen l.start l.records l.gate;
  reads : ReadsOn (2 * length l.records) l.size l.start (l.gate - l.start) l.initial.piece l.piece (g.D.Disk.told l.initial.disk) (g.D.Disk.told l.disk);
  faults : g.D.Disk.faults l.disk ≡ g.D.Disk.faults l.fn.disk;
}

abbrev pub decreases-gates : goal.decreases-gates
decreases-gates g l = l.size - l.gate
