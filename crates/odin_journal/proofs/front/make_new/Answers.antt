use Rattle.std.proofs.Common.{[]}
use Rattle.std.proofs.lemmas.Result.{on_ok_weaker}
use Rattle.meaning_records.specs.Images.{Stored}
use Rattle.odin_journal.proofs.FrontLemmas.{makes_on}
use Rattle.odin_outside.specs.Moments.{then}
use Rattle.odin_journal.proofs.front.make_new.Goals as goal

pub returns-clause-any_moment : goal.returns-clause-any_moment
returns-clause-any_moment g c quiet new =
    then (g.D.Disk.told c.args.disk.now) (g.D.Disk.told c.clear_first.new.disk) (g.D.Disk.told c.write_front.new.disk) (Stored []) (Stored []) (Stored [])
    (c.clear_first.ensures.any_moment quiet new) (c.write_front.ensures.any_moment (c.in_ok-clear_first.ensures.ok quiet new).cleared) (λ image stored. stored) (λ image stored. stored)

pub returns-clause-ok : goal.returns-clause-ok
returns-clause-ok g c =
    on_ok_weaker c.write_front.result (λ made quiet new.
    let clears = c.in_ok-clear_first.ensures.ok quiet new in
    makes_on (g.D.Disk.told c.args.disk.now) (g.D.Disk.told c.clear_first.new.disk) (g.D.Disk.told c.write_front.new.disk) clears (made clears.cleared))
    c.write_front.ensures.ok
