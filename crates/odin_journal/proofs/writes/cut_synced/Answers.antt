use Rattle.std.proofs.Common.{sym, subst, rules}
use Rattle.odin_outside.specs.Disk.{Cut, cut_to, synced_at}
use Rattle.odin_outside.specs.Moments.{follows_on, leaves_by_one_call, next_call, after_sync, sync_quiets}
use Rattle.odin_journal.proofs.MomentLemmas.{on_ok_from, same_result, after_cut, cut_same}
use Rattle.odin_journal.proofs.writes.cut_synced.Goals as goal

pub returns-in_err-cut-clause-any_moment : goal.returns-in_err-cut-clause-any_moment
returns-in_err-cut-clause-any_moment g c quiet =
    let size = c.args.size in
    let old = g.D.Disk.told c.args.disk.now in
    leaves_by_one_call (cut_to size) old (g.D.Disk.told c.cut.new.self) c.cut.result (Cut size old.seen) quiet.follows c.cut.ensures.goes
    (λ image left. subst (λ d. Cut size old.seen d) (sym (quiet.only image (g.met.D.Disk.only_now c.args.disk.now image quiet.follows left))) (cut_same size old.seen))
    (after_cut old (g.D.Disk.told c.cut.new.self) size c.cut.result quiet c.cut.ensures.goes)

pub returns-clause-ok : goal.returns-clause-ok
returns-clause-ok g c =
    let old = g.D.Disk.told c.args.disk.now in
    let mid = g.D.Disk.told c.cut.new.self in
    on_ok_from c.sync.result _ _ (search (rules, same_result)) (sync_quiets old mid (g.D.Disk.told c.sync.new.self) c.sync.result (follows_on _ old mid c.cut.result c.cut.ensures.goes) c.sync.ensures.goes c.sync.ensures.seen)

pub returns-clause-any_moment : goal.returns-clause-any_moment
returns-clause-any_moment g c quiet =
    let size = c.args.size in
    let old = g.D.Disk.told c.args.disk.now in
    let mid = g.D.Disk.told c.cut.new.self in
    let new = g.D.Disk.told c.sync.new.self in
    let follows = follows_on _ old mid c.cut.result c.cut.ensures.goes quiet.follows in
    let cut = after_cut old mid size c.cut.result quiet c.cut.ensures.goes in
    let first = leaves_by_one_call (cut_to size) old mid c.cut.result (Cut size old.seen) quiet.follows c.cut.ensures.goes
    (λ image left. subst (λ d. Cut size old.seen d) (sym (quiet.only image (g.met.D.Disk.only_now c.args.disk.now image quiet.follows left))) (cut_same size old.seen)) cut in
    next_call (λ _. synced_at mid.seen) old mid new c.sync.result (Cut size old.seen) first follows c.sync.ensures.goes
    (λ image left. cut image (after_sync mid new c.sync.result follows (g.met.D.Disk.reads_image c.cut.new.self follows) c.sync.ensures.goes image left))

pub returns-clause-cause : goal.returns-clause-cause
returns-clause-cause g c = search rules

pub returns-clause-size : goal.returns-clause-size
returns-clause-size g c = search rules
