-- The session over an opened store, over every history that its opening may have.
use Rattle.std.specs.Prelude.{◌≡◌, ℕ, []}
use Rattle.odin_outside.specs.Spawned.{Spawned}
use Rattle.meaning_graph.specs.Graphs.{Text, Graph}
use Rattle.odin_store.specs.Held.{Held}
use Rattle.odin_journal.specs.Rest.{IsReady}
use Rattle.odin_engine.specs.Engaged.{Engaged}
use Rattle.odin_shell.specs.declared.ending.Ending.{Ending}
use Rattle.odin_shell.specs.Endings.{EndingLeavesTools}
use Rattle.odin_outside.specs.declared.disk.Disk.{Ghosts as DiskView}
use Rattle.odin_shell.specs.Machine.{at_first, Told, SessionInvariant}
use Rattle.odin_shell.specs.Objects.{SourceTold}
use Rattle.odin_shell.specs.Run.{SessionLeaves, InputCount, DiskCount}

-- a store that was just opened, and no tool runs
pub record MayBeginSession (code : Engaged) (size : ℕ) (tools : Spawned) : Type 0 where
  pub ready : IsReady code.store.journal size
  pub first : code.store.epoch ≡ 0
  pub idle : tools.running ≡ []

module _ {D : Type 0} (disk : DiskView D) where
  -- The store was opened over this graph, for so many tools at once, from what was held when the run started.
  pub record SessionBegins (g : Graph) (text : Text) (limit : ℕ) (held : Held) (start : Told D) (code : Engaged) (before : Told D) : Type 0 where
    pub sink : before.sink ≡ start.sink
    pub fits : SessionInvariant disk held g text limit (at_first held start.tools start.tree) start code (at_first held start.tools start.tree) before

  -- A session ended so, whatever it began with.
  pub record SessionServes (code : Engaged) (input left : SourceTold) (before after : Told D) (ending : Ending) : Type 0 where
    pub leaves : (g : Graph) (text : Text) (limit : ℕ) (held : Held) (start : Told D) → SessionBegins g text limit held start code before
        → SessionLeaves disk g text limit held ending input.left left.left start after
    pub read : InputCount ending input.faults left.faults
    pub counted : DiskCount ending (disk.faults before.disk) (disk.faults after.disk)
    pub idle : ¬ EndingLeavesTools ending → after.tools.running ≡ []
