use Rattle.std.proofs.Common.{◌+◌, ◌<◌, length, ap, ◌∙◌, arith, subst, slice_range, refl, sym}
use Rattle.std.proofs.lemmas.Grind.{common_steps}
use Rattle.odin_bytes.specs.Fields.{u32_field, IsFieldAt}
use Rattle.odin_journal.proofs.PieceLemmas.{reads_less, reads_both}
use Rattle.odin_journal.proofs.MomentLemmas.{untouched_on}
use Rattle.odin_journal.proofs.ReadLemmas.{Head, first_there, opened, record_read, no_record}
use Rattle.odin_journal.proofs.reads.read_record.Goals as goal

pub returns-then-size-gate-clause-err : goal.returns-then-size-gate-clause-err
returns-then-size-gate-clause-err g c = (
  refl,
  λ quiet.
      let image = (g.D.Disk.told c.args.disk.now).seen in
      let head : Head image c.as_slice-bytes.result.now c.args.gate c.min.result = record { read = c.as_slice-bytes.ensures ∙ c.in_ok-head.ensures.bytes.same quiet.quiet; within = omega (arith, quiet.long, c.min.ensures); one = omega arith } in
      let field = subst (λ end. IsFieldAt c.as_slice-bytes.result.now 1 end (u32_field c.in-Some.length)) c.in-Some.ensures.end c.in-Some.ensures.some in (
        opened image _ c.args.gate c.min.result head (omega (arith, c.min.ensures)),
        λ payload there. no_record image _ payload c.args.gate c.min.result c.in-Some.length head field c.in-Some.ensures.fits (omega (arith, quiet.long)) there,
      ),
)

pub returns-clause-some : goal.returns-clause-some
returns-clause-some g c = record {
  is = λ quiet.
      let image = (g.D.Disk.told c.args.disk.now).seen in
      let untouched = c.cut.ensures.left.untouched quiet.quiet in
      let head : Head image c.as_slice-bytes.result.now c.args.gate c.min.result = record { read = c.as_slice-bytes.ensures ∙ c.in_ok-head.ensures.bytes.same quiet.quiet; within = omega (arith, quiet.long, c.min.ensures); one = omega arith } in
      let field = subst (λ end. IsFieldAt c.as_slice-bytes.result.now 1 end (u32_field c.in-Some.length)) c.in-Some.ensures.end c.in-Some.ensures.some in
      record_read image _ c.in_ok-cut.field-0 c.args.gate c.min.result c.in-Some.length head field c.in-Some.ensures.fits (omega (arith, quiet.long))
      (c.in_ok-cut.ensures.bytes.same untouched.quiet ∙ ap (λ l. slice_range l (c.args.gate + 5) (c.args.gate + 5 + c.in-Some.length)) untouched.same);
  room = omega (arith, c.in_ok-cut.ensures.bytes.long);
}

pub returns-then-bytes-ne1-clause-none : goal.returns-then-bytes-ne1-clause-none
returns-then-bytes-ne1-clause-none g c = λ quiet.
    let image = (g.D.Disk.told c.args.disk.now).seen in
    let place = c.requires.place.inside in
    let some : 0 < c.min.result = omega (arith, c.min.ensures, place) in
    record {
      within = omega (arith, quiet.long, place);
      other = λ one. c.if-bytes-ne1.true (sym (first_there image _ c.args.gate c.min.result (c.as_slice-bytes.ensures ∙ c.in_ok-head.ensures.bytes.same quiet.quiet) some) ∙ one);
    }

pub returns-clause-left : goal.returns-clause-left
returns-clause-left g c = record {
  untouched = λ quiet.
      let first = c.cut.ensures.left.untouched quiet in
      untouched_on (g.D.Disk.told c.args.disk.now) (g.D.Disk.told c.cut.new.disk) (g.D.Disk.told c.cut-2.new.disk) first (c.cut-2.ensures.left.untouched first.quiet);
  size = c.in_ok-cut.ensures.left.size ∙ c.in_ok-head.ensures.left.size;
}

pub returns-in_default-clause-err : goal.returns-in_default-clause-err
returns-in_default-clause-err g c = grind (arith, common_steps)

pub returns-clause-reads : goal.returns-clause-reads
returns-clause-reads g c =
    let size = c.args.size in
    let gate = c.args.gate in
    let old = g.D.Disk.told c.args.disk.now in
    let mid = g.D.Disk.told c.cut.new.disk in
    let new = g.D.Disk.told c.cut-2.new.disk in
    let head = reads_less 1 1 size gate c.min.result 5 c.args.piece.now c.cut.new.self old mid (omega arith) (omega (arith, c.min.ensures)) c.in_ok-head.ensures.reads in
    reads_less 2 2 size gate (5 + c.in-Some.length) (5 + length c.in_ok-cut.field-0) c.args.piece.now c.cut-2.new.self old new (omega arith) (omega (arith, c.in_ok-cut.ensures.bytes.long))
    (reads_both 1 1 size gate 5 c.in-Some.length c.args.piece.now c.cut.new.self c.cut-2.new.self old mid new head c.in_ok-cut.ensures.reads)
