use Rattle.std.proofs.Common.{◌≡◌, ◌-◌, ◌≤◌}
use Rattle.odin_shell.specs.Objects.{told_by}
use Rattle.odin_shell.proofs.InputLemmas.{IsAt}
use Rattle.odin_shell.proofs.input.serve_pieces.Given as goal

abbrev pub invariant-loop-count : goal.invariant-loop-count
invariant-loop-count g l = record {
  at : IsAt g.D.Disk l.fn.engine (told_by g.O.Sink g.T.Tree g.S.Spawner l.initial.output l.initial.tree l.initial.tools l.initial.disk) (g.I.Source.left l.initial.input) (g.I.Source.left l.input) l.count (told_by g.O.Sink g.T.Tree g.S.Spawner l.output l.tree l.tools l.disk) l.session;
  within : l.count ≤ 1073741824;
  counted : g.I.Source.faults l.input ≡ g.I.Source.faults l.initial.input;
}

abbrev pub decreases-loop-count : goal.decreases-loop-count
decreases-loop-count g l = 1073741824 - l.count
