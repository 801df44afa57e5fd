use Rattle.odin_journal.proofs.MomentLemmas.{on_ok_two}
use Rattle.odin_journal.proofs.RewriteLemmas.{cut_shortens, cut_leaves, no_cut_leaves}
use Rattle.odin_journal.proofs.rewrite.shorten.Goals as goal

pub returns-then-place-ne-FRONT_SIZE-clause-any_moment : goal.returns-then-place-ne-FRONT_SIZE-clause-any_moment
returns-then-place-ne-FRONT_SIZE-clause-any_moment g c = no_cut_leaves (g.D.Disk.told c.args.disk.now) c.args.place c.args.size (λ image follows left. g.met.D.Disk.only_now c.args.disk.now image follows left)

pub returns-clause-ok : goal.returns-clause-ok
returns-clause-ok g c =
    on_ok_two c.cut_synced.result (λ quiets taken. cut_shortens (g.D.Disk.told c.args.disk.now) (g.D.Disk.told c.cut_synced.new.disk) c.args.place c.args.size c.if-place-ne-FRONT_SIZE.false quiets taken) c.cut_synced.ensures.ok c.cut_synced.ensures.taken

pub returns-clause-any_moment : goal.returns-clause-any_moment
returns-clause-any_moment g c = cut_leaves (g.D.Disk.told c.args.disk.now) (g.D.Disk.told c.cut_synced.new.disk) c.args.place c.args.size c.cut_synced.ensures.any_moment
