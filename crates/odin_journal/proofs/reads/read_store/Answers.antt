use Rattle.std.proofs.Common.{subst, sym}
use Rattle.meaning_records.specs.Images.{IsWritten, IsClosed, AreRecords, NotOurs}
use Rattle.odin_journal.specs.Faults.{IsReadFault, BreaksBehind}
use Rattle.odin_journal.specs.Moments.{IsQuietAt}
use Rattle.odin_journal.proofs.OpenLemmas.{handed, fault_from, quiet_on, store_from, breaks_from}
use Rattle.odin_journal.proofs.reads.read_store.Goals as goal

pub returns-clause-store : goal.returns-clause-store
returns-clause-store g c quiet written =
    let old = g.D.Disk.told c.args.disk.now in
    let size = c.args.size in
    let start = c.in-Some.start in
    let read = c.in_ok-read.read in
    let front = rw c.in-Some.is at c.in_ok-start.ensures.some in
    let untouched = c.read_start.ensures.left.untouched quiet.quiet in
    let there = quiet_on old (g.D.Disk.told c.read_start.new.disk) size untouched quiet in
    store_from old.seen start.place read.0 read.1 written (front quiet).0 (sym (front quiet).1.place)
    (subst (λ image. AreRecords image start.place read.1 read.0) untouched.same (c.in_ok-read.ensures.whole there)) (subst (λ image. IsClosed image read.0) untouched.same (c.in_ok-read.ensures.closed there))

pub returns-clause-start : goal.returns-clause-start
returns-clause-start g c = rw c.in-Some.is at c.in_ok-start.ensures.some

pub returns-in_err-read-clause-err : goal.returns-in_err-read-clause-err
returns-in_err-read-clause-err g c =
    let old = g.D.Disk.told c.args.disk.now in
    let mid = g.D.Disk.told c.read_start.new.disk in
    let size = c.args.size in
    let start = c.in-Some.start in
    let front = rw c.in-Some.is at c.in_ok-start.ensures.some in
    handed (IsReadFault (λ at. IsQuietAt old size → IsWritten old.seen → NotOurs old.seen at)) c.from_residual-in_err-read.result c.in_err-read.field-0.0 c.from_residual-in_err-read.ensures.1
    (fault_from (λ at. IsQuietAt mid size → BreaksBehind mid.seen start.place at) (λ at. IsQuietAt old size → IsWritten old.seen → NotOurs old.seen at) c.in_err-read.field-0.0
    (λ at breaks quiet written.
    let untouched = c.read_start.ensures.left.untouched quiet.quiet in
    breaks_from old.seen start.place at written (front quiet).0 (sym (front quiet).1.place) (subst (λ image. BreaksBehind image start.place at) untouched.same (breaks (quiet_on old mid size untouched quiet))))
    c.in_err-read.ensures.err)
