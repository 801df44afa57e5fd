-- The needs that come into sight as lines are followed, a level at a time.
use Rattle.std.specs.Prelude.{◌≡◌, Bool, false, All, List, Option, Some}
use Rattle.object_values.specs.declared.nodes.Node.{Node}
use Rattle.meaning_texts.specs.Lists.{IsIn}
use Rattle.meaning_graph.specs.Graphs.{Text, Graph}
use Rattle.meaning_tasks.specs.Reached.{Reached, AreReached}
use Rattle.meaning_tasks.specs.Tasks.{Task, ToolTask, task_of}
use Rattle.meaning_tasks.specs.Needs.{Results, Known, values_of, scan_needs, own_lines, other_lines, needs_of}
use Rattle.dynamic_inputs.specs.Closures.{with_names}
use Rattle.node_tasks.specs.declared.ahead.Ahead.{Ahead}
use Rattle.node_tasks.specs.declared.ahead.Level.{Level}

-- ---- what was told

-- Lines of the task lead to each of the names.
abbrev pub AreLed : Task → Known → List Text → Type 0
AreLed t known names =
    (x : Text) → IsIn x names → Reached (own_lines t known) (other_lines t known) x

-- By these results lines lead to each name that was told for the node.
abbrev pub IsAhead : Graph → Node → Results → Ahead → Type 0
IsAhead g n seen ahead = AreLed (task_of g n) (values_of seen) ahead.names

-- Names to which lines lead were added, where they are new.
pub record IsLedOn (t : Task) (known : Known) (before after : List Text) : Type 0 where
  pub lines : List Text
  pub led : AreLed t known lines
  pub is : after ≡ with_names before lines

-- ---- what comes into sight

-- The node is there, and was not visited.
pub record IsUnseen (visited : Node → Bool) (there : Option Node) (m : Node) : Type 0 where
  pub is : there ≡ Some m
  pub unseen : visited m ≡ false

-- The scan node of a reached name, which was not visited.
pub record IsReachedScan (t : ToolTask) (known : Known) (x : Text) (visited : Node → Bool)
    (m : Node) : Type 0 where
  pub one : IsIn m (scan_needs t known x)
  pub unseen : visited m ≡ false

-- A need by what is known that was not visited.
pub record IsInSight (t : Task) (known : Known) (visited : Node → Bool) (m : Node) : Type 0 where
  pub need : (names : List Text) → AreReached (own_lines t known) (other_lines t known) names
      → IsIn m (needs_of t known names)
  pub unseen : visited m ≡ false

abbrev pub AreInSight : Task → Known → (Node → Bool) → List Node → Type 0
AreInSight t known visited nodes = All (IsInSight t known visited) nodes

-- what was put of a level so far
pub record IsOfLevel (t : Task) (known : Known) (visited : Node → Bool)
    (level : Level) : Type 0 where
  pub scans : AreInSight t known visited level.scans
  pub sources : AreInSight t known visited level.sources

-- Each of the nodes is a need of the node by these results, and was not visited.
abbrev pub IsLevel : Graph → Node → Results → (Node → Bool) → List Node → Type 0
IsLevel g n seen visited needs = AreInSight (task_of g n) (values_of seen) visited needs
