use Rattle.std.proofs.Common.{◌≡◌, []}
use Rattle.std.specs.Prelude.{None}
use Rattle.plain_derive.specs.Ways.{ExtendsDerivation}
use Rattle.plain_derive.proofs.running.run_wanted.Given as goal

abbrev pub invariant-loop : goal.invariant-loop
invariant-loop g l = record {
  on : ExtendsDerivation l.fn.walker (g.S.Spawner.told l.fn.tools) l.walker (g.S.Spawner.told l.tools);
  none : l.walker.result ≡ None;
  idle : (g.S.Spawner.told l.tools).running ≡ [];
}
