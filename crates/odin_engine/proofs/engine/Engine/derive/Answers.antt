use Rattle.std.proofs.Common.{subst, sym, arith}
use Rattle.meaning_graph.specs.Graphs.{Graph}
use Rattle.meaning_graph.specs.Grammar.{GraphText}
use Rattle.kept_derive.specs.Calls.{IsIdle}
use Rattle.kept_derive.specs.Runs.{at}
use Rattle.odin_engine.specs.Engaged.{Engaged, IsStoreFor}
use Rattle.odin_engine.proofs.StoreForLemmas.{derived_for}
use Rattle.odin_engine.proofs.engine.Engine.derive.Goals as goal

pub derive_kept-requires-clause-may : goal.derive_kept-requires-clause-may
derive_kept-requires-clause-may g c =
    let idle = subst (λ (e : Engaged). IsIdle e.store (g.D.Disk.size_of c.args.disk.now) (g.S.Spawner.told c.args.tools.now)) (sym c.self.view_is) c.requires.idle in
    let some = c.self.invariant.2.some in
    record { idle = idle; spelled = subst (GraphText c.self.inside.store.graph) (sym c.new-planned.ensures) (c.self.invariant.3 idle.ready.fresh); some = omega (arith, some) }

pub invariant_of-self : goal.invariant_of-self
invariant_of-self g c =
    let idle = subst (λ (e : Engaged). IsIdle e.store (g.D.Disk.size_of c.args.disk.now) (g.S.Spawner.told c.args.tools.now)) (sym c.self.view_is) c.requires.idle in
    let old = at c.self.inside.store c.args.disk.now (g.S.Spawner.told c.args.tools.now) in
    let new = at c.derive_kept.new.store c.derive_kept.new.disk (g.S.Spawner.told c.derive_kept.new.tools) in (
      c.self.invariant.0,
      c.self.invariant.1,
      c.self.invariant.2,
      subst (λ (g : Graph). IsStoreFor g new.store) c.new-planned.ensures
          (derived_for c.new-planned.result g.D.Disk.told c.args.node.now c.self.inside.jobs old new _ c.derive_kept.result
          (subst (GraphText old.store.graph) (sym c.new-planned.ensures) (c.self.invariant.3 idle.ready.fresh))
          c.derive_kept.ensures.found c.derive_kept.ensures.stopped c.derive_kept.ensures.left),
    )
