use Rattle.std.proofs.Common.{◌≡◌, []}
use Rattle.std.specs.Prelude.{None}
use Rattle.plain_derive.proofs.OnLemmas.{IsOnWay}
use Rattle.plain_derive.proofs.derivation.derive_counted.Given as goal

abbrev pub invariant-loop : goal.invariant-loop
invariant-loop g l = record {
  way : IsOnWay l.planned l.sources.texts l.node (g.S.Spawner.told l.fn.tools) l.walker (g.S.Spawner.told l.tools);
  none : l.walker.result ≡ None;
  idle : (g.S.Spawner.told l.tools).running ≡ [];
}
