use Rattle.std.proofs.Common.{length, sym, subst, rules}
use Rattle.odin_outside.specs.Disk.{Torn, wrote, synced_at}
use Rattle.odin_outside.specs.Steps.{torn_same}
use Rattle.odin_outside.specs.Moments.{follows_on, leaves_by_one_call, next_call, after_write, after_sync, sync_quiets}
use Rattle.odin_journal.proofs.MomentLemmas.{on_ok_from, same_result}
use Rattle.odin_journal.proofs.writes.write_synced.Goals as goal

pub returns-in_err-write_at-clause-any_moment : goal.returns-in_err-write_at-clause-any_moment
returns-in_err-write_at-clause-any_moment g c quiet =
    let at = c.args.at in
    let n = length c.args.bytes.now in
    let old = g.D.Disk.told c.args.disk.now in
    leaves_by_one_call (wrote at n) old (g.D.Disk.told c.write_at.new.self) c.write_at.result (Torn at n old.seen) quiet.follows c.write_at.ensures.goes
    (λ image left. subst (λ d. Torn at n old.seen d) (sym (quiet.only image (g.met.D.Disk.only_now c.args.disk.now image quiet.follows left))) (torn_same at n old.seen))
    (after_write old (g.D.Disk.told c.write_at.new.self) at n c.write_at.result quiet c.write_at.ensures.goes)

pub returns-clause-ok : goal.returns-clause-ok
returns-clause-ok g c =
    let old = g.D.Disk.told c.args.disk.now in
    let mid = g.D.Disk.told c.write_at.new.self in
    on_ok_from c.sync.result _ _ (search (rules, same_result)) (sync_quiets old mid (g.D.Disk.told c.sync.new.self) c.sync.result (follows_on _ old mid c.write_at.result c.write_at.ensures.goes) c.sync.ensures.goes c.sync.ensures.seen)

pub returns-clause-any_moment : goal.returns-clause-any_moment
returns-clause-any_moment g c quiet =
    let at = c.args.at in
    let n = length c.args.bytes.now in
    let old = g.D.Disk.told c.args.disk.now in
    let mid = g.D.Disk.told c.write_at.new.self in
    let new = g.D.Disk.told c.sync.new.self in
    let follows = follows_on _ old mid c.write_at.result c.write_at.ensures.goes quiet.follows in
    let torn = after_write old mid at n c.write_at.result quiet c.write_at.ensures.goes in
    let first = leaves_by_one_call (wrote at n) old mid c.write_at.result (Torn at n old.seen) quiet.follows c.write_at.ensures.goes
    (λ image left. subst (λ d. Torn at n old.seen d) (sym (quiet.only image (g.met.D.Disk.only_now c.args.disk.now image quiet.follows left))) (torn_same at n old.seen)) torn in
    next_call (λ _. synced_at mid.seen) old mid new c.sync.result (Torn at n old.seen) first follows c.sync.ensures.goes
    (λ image left. torn image (after_sync mid new c.sync.result follows (g.met.D.Disk.reads_image c.write_at.new.self follows) c.sync.ensures.goes image left))

pub returns-clause-cause : goal.returns-clause-cause
returns-clause-cause g c = search rules

pub returns-clause-size : goal.returns-clause-size
returns-clause-size g c = search rules
