use Rattle.odin_journal.proofs.AppendLemmas.{rest_stays}
use Rattle.odin_journal.proofs.journal.Journal.append.Goals as goal

pub returns-then-not-has_room-clause-any_moment : goal.returns-then-not-has_room-clause-any_moment
returns-then-not-has_room-clause-any_moment g c records rest =
    rest_stays (g.D.Disk.told c.args.disk.now) records c.args.self.now.end c.args.payload.now (λ image left. g.met.D.Disk.only_now c.args.disk.now image rest.quiet.follows left) rest

pub returns-in_err-framed-clause-any_moment : goal.returns-in_err-framed-clause-any_moment
returns-in_err-framed-clause-any_moment g c records rest =
    rest_stays (g.D.Disk.told c.args.disk.now) records c.args.self.now.end c.args.payload.now (λ image left. g.met.D.Disk.only_now c.args.disk.now image rest.quiet.follows left) rest
