use Rattle.std.proofs.Common.{◌≡◌, ◌++◌, ◌∷◌, ◌+◌, ◌-◌, ◌*◌, ◌/◌, ◌^◌, min, [], length, length-append, refl, ap, sym, subst, ◌∙◌, arith}
use Rattle.meaning_records.specs.Images.{gate_after, IsRecord, AreRecords}
use Rattle.odin_journal.specs.Pieces.{ReadsOn}
use Rattle.odin_journal.specs.WorkLemmas.{add_work}
use Rattle.odin_journal.proofs.MomentLemmas.{on_ok, untouched_on}
use Rattle.odin_journal.proofs.AppendLemmas.{one_more}
use Rattle.odin_journal.proofs.PieceLemmas.{no_reads, reads_less, reads_both, all_reads}
use Rattle.odin_journal.proofs.reads.read_records.Goals as goal

pub gates-preserved : goal.gates-preserved
gates-preserved g c =
    let old = g.D.Disk.told c.args.disk.now in
    let mid = g.D.Disk.told c.gates.disk in
    let new = g.D.Disk.told c.read_record.new.disk in
    let start = c.args.start in
    let gate = c.gates.gate in
    let size = c.args.size in
    let payload = c.in-Some.payload in
    let some = rw c.in-Some.is at c.in_ok-payload.ensures.some in
    let reads : ReadsOn 2 size gate (5 + length payload) c.gates.piece c.read_record.new.piece mid new = rw c.in-Some.is at c.in_ok-payload.ensures.reads in
    let room = some.room in
    let gate_is : gate_after gate payload ≡ gate + (5 + c.len.result) = omega (arith, c.len.ensures) in
    let records_are : c.push.new.self ≡ c.gates.records ++ payload ∷ [] = c.in_ok-push.ensures.ok in
    let size_is = c.in_ok-payload.ensures.left.size in
    record {
      ordered = omega (arith, c.gates.invariant.ordered);
      inside = omega (arith, room);
      size = c.gates.invariant.size ∙ sym size_is;
      same = size_is ∙ c.gates.invariant.same;
      untouched = λ quiet.
          let first = c.gates.invariant.untouched quiet in
          untouched_on old mid new first (c.read_record.ensures.left.untouched first.quiet);
      whole = λ quiet.
          let first = c.gates.invariant.untouched quiet.quiet in
          let there = some.is (record { quiet = first.quiet; long = ap length first.same ∙ quiet.long }) in
          let here = subst (λ image. IsRecord image gate payload) first.same there in
          rw records_are (subst (λ next. AreRecords old.seen start (c.gates.records ++ payload ∷ []) next) gate_is (one_more old.seen start gate c.gates.records payload (c.gates.invariant.whole quiet) here));
      reads =
          let more : length c.push.new.self ≡ length c.gates.records + 1 = ap length records_are ∙ length-append c.gates.records (payload ∷ []) in
          let place : gate ≡ start + (gate - start) = omega (arith, c.gates.invariant.ordered) in
          let next = subst (λ at. ReadsOn 2 size at (5 + length payload) c.gates.piece c.read_record.new.piece mid new) place reads in
          reads_less (2 * length c.gates.records + 2) (2 * length c.push.new.self) size start (gate - start + (5 + length payload)) (gate + (5 + c.len.result) - start) c.in_ok-piece.piece c.read_record.new.piece _ new
          (omega (arith, more)) (omega (arith, c.len.ensures, c.gates.invariant.ordered))
          (reads_both (2 * length c.gates.records) 2 size start (gate - start) (5 + length payload) c.in_ok-piece.piece c.gates.piece c.read_record.new.piece _ mid new c.gates.invariant.reads next);
      faults = c.in_ok-payload.ensures.cause.ok ∙ c.gates.invariant.faults;
    }

pub returns-in_err-push-clause-left : goal.returns-in_err-push-clause-left
returns-in_err-push-clause-left g c = record {
  untouched = λ quiet.
      let first = c.gates.invariant.untouched quiet in
      untouched_on (g.D.Disk.told c.args.disk.now) (g.D.Disk.told c.gates.disk) (g.D.Disk.told c.read_record.new.disk) first (c.read_record.ensures.left.untouched first.quiet);
  size = on_ok c.from_residual-in_err-push.result (c.in_ok-payload.ensures.left.size ∙ c.gates.invariant.same);
}

pub gates-init : goal.gates-init
gates-init g c = record {
  ordered = omega arith;
  inside = c.requires.inside;
  size = c.requires.size_is ∙ sym c.in_ok-piece.ensures.left.size;
  same = c.in_ok-piece.ensures.left.size;
  untouched = c.read.ensures.left.untouched;
  whole = λ quiet. rw c.new-records.ensures refl;
  reads =
      let disk = g.D.Disk.told c.read.new.disk in
      let piece = c.in_ok-piece.piece in
      reads_less 0 (2 * length c.new-records.result) c.args.size c.args.start 0 (c.args.start - c.args.start) piece piece disk disk (omega arith) (omega arith)
      (no_reads c.args.size c.args.start piece disk c.in_ok-piece.ensures.piece);
  faults = c.in_ok-piece.ensures.cause.ok;
}

pub returns-clause-works : goal.returns-clause-works
returns-clause-works g c =
    let first = g.D.Disk.told c.read.new.disk in
    let mid = g.D.Disk.told c.gates.disk in
    let new = g.D.Disk.told c.read_record.new.disk in
    let start = c.args.start in
    let size = c.args.size in
    let gate = c.gates.gate in
    let n = length c.gates.records in
    let piece = c.in_ok-piece.piece in
    let place : gate ≡ start + (gate - start) = omega (arith, c.gates.invariant.ordered) in
    let last : ReadsOn 1 size gate 5 c.gates.piece c.read_record.new.piece mid new = rw c.in_default.is at c.in_ok-payload.ensures.reads in
    let next = subst (λ at. ReadsOn 1 size at 5 c.gates.piece c.read_record.new.piece mid new) place last in
    let both = reads_both (2 * n) 1 size start (gate - start) 5 piece c.gates.piece c.read_record.new.piece first mid new c.gates.invariant.reads next in
    add_work 0 1 0 (min (2 * n + 1) (2 * ((gate - start) / 2 ^ 20 + 1))) (g.D.Disk.told c.args.disk.now).work first.work new.work c.read.ensures.works
    (all_reads n size start (gate - start) piece c.read_record.new.piece first new c.in_ok-piece.ensures.from both)
