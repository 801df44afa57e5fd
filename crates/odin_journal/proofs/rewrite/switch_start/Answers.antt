use Rattle.odin_journal.proofs.MomentLemmas.{on_ok_two}
use Rattle.odin_journal.proofs.RewriteLemmas.{field_leaves, switch_leaves, switch_starts}
use Rattle.odin_journal.proofs.rewrite.switch_start.Goals as goal

pub returns-in_err-write_synced-clause-any_moment : goal.returns-in_err-write_synced-clause-any_moment
returns-in_err-write_synced-clause-any_moment g c before records last has =
    field_leaves (g.D.Disk.told c.args.disk.now) (g.D.Disk.told c.write_synced.new.disk) c.args.start before records last has
    (rw (c.field_of.ensures, c.to_be_bytes-field.ensures) at (c.write_synced.ensures.any_moment has.rests.quiet))

pub returns-clause-any_moment : goal.returns-clause-any_moment
returns-clause-any_moment g c before records last has =
    let quiet = c.in_ok-write_synced.ensures.ok has.rests.quiet in
    switch_leaves (g.D.Disk.told c.args.disk.now) (g.D.Disk.told c.write_synced.new.disk) (g.D.Disk.told c.write_synced-2.new.disk) c.args.start before records last has
    (rw (c.field_of.ensures, c.to_be_bytes-field.ensures) at (c.write_synced.ensures.any_moment has.rests.quiet))
    (rw (c.field_of.ensures, c.to_be_bytes-field.ensures) at (c.in_ok-write_synced.ensures.written has.rests.quiet.follows))
    (c.write_synced-2.ensures.any_moment quiet)

pub returns-clause-ok : goal.returns-clause-ok
returns-clause-ok g c =
    on_ok_two c.write_synced-2.result (λ quiets put before records last has.
    let quiet = c.in_ok-write_synced.ensures.ok has.rests.quiet in
    switch_starts (g.D.Disk.told c.args.disk.now) (g.D.Disk.told c.write_synced.new.disk) (g.D.Disk.told c.write_synced-2.new.disk) c.args.start before records last has
    (rw (c.field_of.ensures, c.to_be_bytes-field.ensures) at (c.in_ok-write_synced.ensures.written has.rests.quiet.follows))
    (rw c.byte_of.ensures at (put quiet.follows)) (quiets quiet))
    c.write_synced-2.ensures.ok c.write_synced-2.ensures.written
