use Rattle.std.proofs.Common.{◌+◌, ◌<◌, length, subst, inl, inr, arith}
use Rattle.std.proofs.lemmas.Result.{on_ok_weaker}
use Rattle.odin_outside.specs.Disk.{Written}
use Rattle.odin_journal.specs.Rest.{BeforeOrAfter}
use Rattle.odin_outside.specs.Moments.{then, weaker}
use Rattle.odin_journal.proofs.MomentLemmas.{on_ok_two}
use Rattle.odin_journal.proofs.AppendLemmas.{torn_store, stands, torn_gate, opened_torn, gate_written, gate_and_behind}
use Rattle.odin_journal.proofs.journal.add.Goals as goal

pub returns-in_err-write_synced-clause-any_moment : goal.returns-in_err-write_synced-clause-any_moment
returns-in_err-write_synced-clause-any_moment g c payload records is rest =
    let old = g.D.Disk.told c.args.disk.now in
    weaker old (g.D.Disk.told c.write_synced.new.disk) _ (BeforeOrAfter records payload) (c.write_synced.ensures.any_moment rest.quiet)
    (λ image torn. inl (inr (c.args.end, torn_store old.seen image records c.args.end _ _ rest.store torn (omega arith) (omega (arith, c.requires.room)))))

pub returns-clause-ok : goal.returns-clause-ok
returns-clause-ok g c =
    let end = c.args.end in
    let old = g.D.Disk.told c.args.disk.now in
    let mid = g.D.Disk.told c.write_synced.new.disk in
    let new = g.D.Disk.told c.write_synced-2.new.disk in
    on_ok_two c.write_synced-2.result (λ quiets written payload records is rest.
    let quiet = c.in_ok-write_synced.ensures.ok rest.quiet in
    let new_quiet = quiets quiet in
    let torn = (c.write_synced.ensures.any_moment rest.quiet).now mid.seen (g.met.D.Disk.reads_image c.write_synced.new.disk quiet.follows) in
    let store = torn_store old.seen mid.seen records end _ _ rest.store torn (omega arith) (omega (arith, c.requires.room)) in
    let there = stands old.seen mid.seen end payload rest.store.closed.within (subst (λ b. Written old.seen (end + 1) b mid.seen) is (c.in_ok-write_synced.ensures.written rest.quiet.follows)) in
    let gate = (c.write_synced-2.ensures.any_moment quiet).now new.seen (g.met.D.Disk.reads_image c.write_synced-2.new.disk new_quiet.follows) in
    let inside = store.closed.within in
    record { quiet = new_quiet; store = opened_torn mid.seen new.seen records end payload store there gate (gate_written mid.seen new.seen end (omega arith) (written quiet.follows)) })
    c.write_synced-2.ensures.ok c.write_synced-2.ensures.written

pub returns-clause-any_moment : goal.returns-clause-any_moment
returns-clause-any_moment g c payload records is rest =
    let end = c.args.end in
    let old = g.D.Disk.told c.args.disk.now in
    let mid = g.D.Disk.told c.write_synced.new.disk in
    let new = g.D.Disk.told c.write_synced-2.new.disk in
    let quiet = c.in_ok-write_synced.ensures.ok rest.quiet in
    let first = c.write_synced.ensures.any_moment rest.quiet in
    let store = torn_store old.seen mid.seen records end _ _ rest.store (first.now mid.seen (g.met.D.Disk.reads_image c.write_synced.new.disk quiet.follows)) (omega arith) (omega (arith, c.requires.room)) in
    let there = stands old.seen mid.seen end payload rest.store.closed.within (subst (λ b. Written old.seen (end + 1) b mid.seen) is (c.in_ok-write_synced.ensures.written rest.quiet.follows)) in
    then old mid new _ _ (BeforeOrAfter records payload) first (c.write_synced-2.ensures.any_moment quiet)
    (λ image torn. inl (inr (end, torn_store old.seen image records end _ _ rest.store torn (omega arith) (omega (arith, c.requires.room)))))
    (λ image torn. torn_gate mid.seen image records end payload store there torn)

pub returns-clause-bytes : goal.returns-clause-bytes
returns-clause-bytes g c =
    let old = g.D.Disk.told c.args.disk.now in
    let mid = g.D.Disk.told c.write_synced.new.disk in
    let new = g.D.Disk.told c.write_synced-2.new.disk in
    on_ok_weaker c.write_synced-2.result (λ written quiet.
    let inside : c.args.end < length old.seen = subst (λ size. c.args.end < size) (g.met.D.Disk.sized c.args.disk.now quiet.follows) c.requires.inside in
    gate_and_behind old.seen mid.seen new.seen c.args.end c.args.bytes.now inside (c.in_ok-write_synced.ensures.written quiet.follows) (written (c.in_ok-write_synced.ensures.ok quiet).follows))
    c.write_synced-2.ensures.written
