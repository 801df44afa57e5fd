use Rattle.std.proofs.Common.{[], drop, inl, refl}
use Rattle.odin_outside.specs.Disk.{Torn}
use Rattle.meaning_records.specs.Images.{Stored}
use Rattle.odin_outside.specs.Moments.{then, weaker}
use Rattle.odin_journal.proofs.MomentLemmas.{on_ok_two}
use Rattle.odin_journal.proofs.FrontLemmas.{torn_front, front_written, torn_mark, marked, marked_bytes}
use Rattle.odin_journal.proofs.front.write_front.Goals as goal

pub returns-in_err-write_synced-clause-any_moment : goal.returns-in_err-write_synced-clause-any_moment
returns-in_err-write_synced-clause-any_moment g c cleared =
    let old = g.D.Disk.told c.args.disk.now in
    weaker old (g.D.Disk.told c.write_synced.new.disk) (Torn 1 64 old.seen) (Stored []) (c.write_synced.ensures.any_moment cleared.quiet)
    (λ image torn. inl (torn_front old.seen image cleared.some cleared.zero_first cleared.within torn, refl))

pub returns-clause-ok : goal.returns-clause-ok
returns-clause-ok g c =
    let old = g.D.Disk.told c.args.disk.now in
    let mid = g.D.Disk.told c.write_synced.new.disk in
    let new = g.D.Disk.told c.write_synced-2.new.disk in
    on_ok_two c.write_synced-2.result (λ quiets written cleared.
    let quiet = c.in_ok-write_synced.ensures.ok cleared.quiet in
    let new_quiet = quiets quiet in
    let torn = (c.write_synced.ensures.any_moment cleared.quiet).now mid.seen (g.met.D.Disk.reads_image c.write_synced.new.disk quiet.follows) in
    let front = front_written old.seen mid.seen cleared.some cleared.zero_first (c.in_ok-write_synced.ensures.written cleared.quiet.follows) in
    let within = (torn_front old.seen mid.seen cleared.some cleared.zero_first cleared.within torn).within in
    let mark = (c.write_synced-2.ensures.any_moment quiet).now new.seen (g.met.D.Disk.reads_image c.write_synced-2.new.disk new_quiet.follows) in
    let rest = drop 65 old.seen in
    record {
      rests = record { quiet = new_quiet; store = marked mid.seen new.seen rest front within mark (written quiet.follows) };
      bytes = marked_bytes mid.seen new.seen rest front mark (written quiet.follows);
    })
    c.write_synced-2.ensures.ok c.write_synced-2.ensures.written

pub returns-clause-any_moment : goal.returns-clause-any_moment
returns-clause-any_moment g c cleared =
    let old = g.D.Disk.told c.args.disk.now in
    let mid = g.D.Disk.told c.write_synced.new.disk in
    let new = g.D.Disk.told c.write_synced-2.new.disk in
    let quiet = c.in_ok-write_synced.ensures.ok cleared.quiet in
    let first = c.write_synced.ensures.any_moment cleared.quiet in
    let torn = first.now mid.seen (g.met.D.Disk.reads_image c.write_synced.new.disk quiet.follows) in
    let front = front_written old.seen mid.seen cleared.some cleared.zero_first (c.in_ok-write_synced.ensures.written cleared.quiet.follows) in
    let within = (torn_front old.seen mid.seen cleared.some cleared.zero_first cleared.within torn).within in
    then old mid new (Torn 1 64 old.seen) (Torn 0 1 mid.seen) (Stored []) first (c.write_synced-2.ensures.any_moment quiet)
    (λ image torn. inl (torn_front old.seen image cleared.some cleared.zero_first cleared.within torn, refl))
    (λ image torn. torn_mark mid.seen image (drop 65 old.seen) front within torn)
