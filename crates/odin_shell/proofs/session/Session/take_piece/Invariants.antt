use Rattle.std.proofs.Common.{◌-◌, ◌≤◌, length, take}
use Rattle.odin_shell.specs.Objects.{told_by}
use Rattle.odin_shell.specs.Served.{IsOnward}
use Rattle.odin_shell.specs.Sessions.{AdvancesSession}
use Rattle.odin_shell.proofs.session.Session.take_piece.Given as goal

abbrev pub invariant-loop-at : goal.invariant-loop-at
invariant-loop-at g l =
    record {
      within : l.at ≤ length l.piece;
      goes : AdvancesSession g.D.Disk (take l.at l.piece) (told_by g.O.Sink g.T.Tree g.S.Spawner l.initial.output l.initial.tree l.initial.tools l.initial.disk) l.initial.self (told_by g.O.Sink g.T.Tree g.S.Spawner l.output l.tree l.tools l.disk) l.self;
      onward : IsOnward g.D.Disk l.at l.initial.self.engine l.self.engine l.initial.disk l.disk;
    }

abbrev pub decreases-loop-at : goal.decreases-loop-at
decreases-loop-at g l = length l.piece - l.at
