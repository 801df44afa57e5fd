-- What a derivation stands on, and how it leaves the tools.
use Rattle.std.specs.Prelude.{◌≡◌, ◌≤◌, ⊤, ℕ, [], length, Result, OnOk, IfErr}
use Rattle.object_values.specs.declared.nodes.Node.{Node}
use Rattle.odin_outside.specs.Spawned.{Spawned}
use Rattle.meaning_graph.specs.Graphs.{Graph}
use Rattle.meaning_graph.specs.Grammar.{IsSpellable}
use Rattle.meaning_tasks.specs.Nodes.{Fits}
use Rattle.kept_derive.specs.declared.fault.KeptFault.{KeptFault}
use Rattle.kept_derive.specs.declared.fault.KeptFault.TheVariants.{Spawn}

-- The node is one of the graph.
pub record IsDerivable (g : Graph) (n : Node) : Type 0 where
  pub spellable : IsSpellable g
  pub fits : Fits g n

-- the faults that leave what runs: all but a tool that was not started, or whose end was lost
abbrev pub LeavesTools : KeptFault → Type 0
LeavesTools Spawn = ⊥
LeavesTools other = ⊤

-- each fault does
abbrev pub LeavesAll : {E : Type 0} → E → Type 0
LeavesAll fault = ⊤

-- The tools answer as before, the count of their faults never falls, no more of them run than may, and none but after a fault that leaves them.
pub record ComesToRest {T E : Type 0} (Leaves : E → Type 0) (limit : ℕ) (before now : Spawned) (result : Result T E) : Type 0 where
  pub answer : now.answer ≡ before.answer
  pub later : before.faults ≤ now.faults
  pub few : length now.running ≤ limit
  pub idle : OnOk result (now.running ≡ [])
  pub left : IfErr result (λ fault. ¬ Leaves fault → now.running ≡ [])
