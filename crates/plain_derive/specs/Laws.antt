-- What follows from what a derivation made.
use Rattle.std.specs.Prelude.{◌≡◌, List}
use Rattle.object_values.specs.declared.nodes.Node.{Node}
use Rattle.object_values.specs.declared.calls.Call.{Call}
use Rattle.odin_outside.specs.Causes.{IsCounted}
use Rattle.odin_outside.specs.Spawned.{Spawned}
use Rattle.meaning_graph.specs.Graphs.{Graph}
use Rattle.meaning_texts.specs.Lists.{IsIn}
use Rattle.meaning_derive.specs.Derive.{Sources, Outcomes, derived, IsFounded}
use Rattle.meaning_derive.specs.Calls.{IsCallFrom}
use Rattle.derive_walk.specs.Calls.{AreOnce}
use Rattle.derive_walk.specs.declared.found.Found.{Found}
use Rattle.derive_walk.specs.Founds.{IsFound}
use Rattle.job_runner.specs.declared.fault.JobFault.{JobFault}
use Rattle.job_runner.specs.declared.fault.JobFault.TheVariants.{Spawn, Memory}
use Rattle.plain_derive.specs.Logs.{among, AreMade, HasMade, IsPartialRun}

-- What is found by the calls that were made is found by all outcomes.
abbrev pub FoundByAll : Type 0
FoundByAll =
    (g : Graph) (s : Sources) (outcomes : Outcomes) (n : Node) (calls : List Call) (found : Found)
    → IsFound g s (among outcomes calls) n found → IsFound g s outcomes n found

-- Each call that was made is one of the node's.
abbrev pub MadeAreCalls : Type 0
MadeAreCalls =
    (g : Graph) (s : Sources) (outcomes : Outcomes) (n : Node) (calls : List Call)
    → AreMade g s outcomes n calls → (call : Call) → IsIn call calls
    → IsCallFrom g (derived g s outcomes) n call

-- Each was made once.
abbrev pub MadeAreOnce : Type 0
MadeAreOnce =
    (g : Graph) (s : Sources) (outcomes : Outcomes) (n : Node) (calls : List Call)
    → AreMade g s outcomes n calls → AreOnce calls

-- Where the node has a result by those that were made, all its calls were.
abbrev pub AllAreMade : Type 0
AllAreMade =
    (g : Graph) (s : Sources) (outcomes : Outcomes) (n : Node) (calls : List Call)
    → IsFounded g s (among outcomes calls) n
    → (call : Call) → IsCallFrom g (derived g s outcomes) n call → IsIn call calls

-- A derivation that came to its end counted no fault.
abbrev pub MadeCountsNone : Type 0
MadeCountsNone =
    (g : Graph) (s : Sources) (outcomes : Outcomes) (n : Node) (calls : List Call)
    (before now : Spawned) → HasMade g s outcomes n calls before now → now.faults ≡ before.faults

-- how the count of faults goes on: want of memory is no fault
abbrev pub CountedFor : JobFault → Spawned → Spawned → Type 0
CountedFor Memory before now = now.faults ≡ before.faults
CountedFor Spawn before now = IsCounted before.faults now.faults

-- One that was given up counted its fault.
abbrev pub GivenUpIsCounted : Type 0
GivenUpIsCounted =
    (g : Graph) (s : Sources) (outcomes : Outcomes) (n : Node) (fault : JobFault)
    (before now : Spawned) → IsPartialRun g s outcomes n fault before now → CountedFor fault before now
