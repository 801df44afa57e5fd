use Rattle.odin_store.specs.Held.{drops}
use Rattle.odin_store.specs.Changes.{DropBatch}
use Rattle.odin_store.proofs.StoreLemmas.{leaves_same}
use Rattle.odin_store.proofs.ReadyLemmas.{begins_none}
use Rattle.odin_store.proofs.store.Store.before_drop.Goals as goal

pub returns-clause-leaves : goal.returns-clause-leaves
returns-clause-leaves g c = leaves_same (drops c.args.name.now) c.args.self.now (g.D.Disk.told c.args.disk.now) (λ image follows left. g.met.D.Disk.only_now c.args.disk.now image follows left)

pub returns-clause-begins : goal.returns-clause-begins
returns-clause-begins g c = begins_none (DropBatch c.args.name.now) c.args.self.now (g.D.Disk.told c.args.disk.now) (λ image follows left. g.met.D.Disk.only_now c.args.disk.now image follows left)
