use Rattle.std.proofs.Common.{inr, length, ap, subst, ◌∙◌}
use Rattle.odin_outside.specs.Disk.{Torn, Written}
use Rattle.odin_outside.specs.Moments.{weaker}
use Rattle.meaning_records.specs.Images.{Stored}
use Rattle.odin_journal.specs.Rewrites.{copy_size}
use Rattle.odin_journal.proofs.MomentLemmas.{on_ok_two}
use Rattle.odin_journal.proofs.RewriteLemmas.{copy_put, copy_long, copy_torn}
use Rattle.odin_journal.proofs.rewrite.put_copy.Goals as goal

pub returns-clause-any_moment : goal.returns-clause-any_moment
returns-clause-any_moment g c before records may =
    let old = g.D.Disk.told c.args.disk.now in
    let place = c.args.start.place in
    weaker old (g.D.Disk.told c.write_synced.new.disk) (Torn place (length c.args.copy.now) old.seen) (Stored before) (c.write_synced.ensures.any_moment may.rests.quiet)
    (λ image torn. inr (may.end, copy_torn old.seen image before may.used may.end (copy_size records) place may.rests.store may.starts may.placed (subst (λ n. Torn place n old.seen image) (ap length may.copy_is ∙ copy_long records) torn)))

pub returns-clause-ok : goal.returns-clause-ok
returns-clause-ok g c =
    let old = g.D.Disk.told c.args.disk.now in
    let new = g.D.Disk.told c.write_synced.new.disk in
    on_ok_two c.write_synced.result (λ quiets put before records may.
    let there = copy_put old.seen new.seen may.used c.args.start before records may.end may.rests.store may.starts may.placed (subst (λ b. Written old.seen c.args.start.place b new.seen) may.copy_is (put may.rests.quiet.follows)) in
    record {
      used = may.used;
      end = may.end;
      rests = record { quiet = quiets may.rests.quiet; store = there.store };
      starts = there.starts;
      other = may.other;
      behind_front = there.high;
      whole = there.whole;
      closed = there.closed;
    })
    c.write_synced.ensures.ok c.write_synced.ensures.written
