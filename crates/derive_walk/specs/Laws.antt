-- What follows of walks and of what they find.
use Rattle.std.specs.Prelude.{◌≡◌, Some, None}
use Rattle.object_values.specs.declared.nodes.Node.{Node}
use Rattle.object_values.specs.declared.calls.Call.{Call}
use Rattle.object_values.specs.declared.views.View.{View}
use Rattle.meaning_texts.specs.Lists.{IsIn}
use Rattle.meaning_graph.specs.Graphs.{Graph}
use Rattle.meaning_calls.specs.Jobs.{IsWellFormed}
use Rattle.meaning_tasks.specs.Nodes.{Fits}
use Rattle.meaning_derive.specs.Derive.{Sources, Outcomes}
use Rattle.meaning_derive.specs.Given.{OutcomesFit}
use Rattle.meaning_derive.specs.Laws.{HasMore}
use Rattle.meaning_true.specs.Knowing.{KeptRecords, Knows}
use Rattle.derive_walk.specs.declared.found.Found.{Found}
use Rattle.derive_walk.specs.declared.found.Found.TheVariants.{Answer}
use Rattle.derive_walk.specs.Founds.{IsFound, NodesFit}
use Rattle.derive_walk.specs.Knowing.{records_with}
use Rattle.derive_walk.specs.Looks.{HasLookedAt, AllAreLookedAt}
use Rattle.derive_walk.specs.Places.{KeptPlaces}
use Rattle.derive_walk.specs.Walks.{Walked, IsFormed, IsRight, IsPlacedIn}
use Rattle.derive_walk.specs.Worlds.{World, IsWorld, world_over}

-- What is found stays so as more outcomes come.
abbrev pub FoundStays : Type 0
FoundStays =
    (g : Graph) (s : Sources) (outcomes more : Outcomes) → HasMore outcomes more
    → (n : Node) (found : Found) → IsFound g s outcomes n found → IsFound g s more n found

-- A walk that is right stays so as more outcomes come, as long as no wanted call has one.
abbrev pub RightStays : Type 0
RightStays =
    (records : KeptRecords) (places : KeptPlaces) (g : Graph) (s : Sources)
    (outcomes more : Outcomes) → HasMore outcomes more → OutcomesFit more
    → (walked : Walked) → ((call : Call) → IsIn call walked.wanted → more call ≡ None)
    → IsRight (world_over records places g s outcomes) walked → IsRight (world_over records places g s more) walked

-- So does a walk that is formed.
abbrev pub FormedStays : Type 0
FormedStays =
    (records : KeptRecords) (places : KeptPlaces) (g : Graph) (s : Sources)
    (outcomes more : Outcomes) → HasMore outcomes more → OutcomesFit more
    → (walked : Walked) → ((call : Call) → IsIn call walked.wanted → more call ≡ None)
    → IsFormed (world_over records places g s outcomes) walked → IsFormed (world_over records places g s more) walked

-- ---- what is formed, whatever is known

abbrev pub FoundFits : Type 0
FoundFits =
    (w : World) → IsWorld w → (n : Node) → Fits w.graph n → (found : Found)
    → IsFound w.graph w.sources w.outcomes n found → NodesFit w.graph found

-- Each wanted call is well formed.
abbrev pub WantedAreFormed : Type 0
WantedAreFormed =
    (w : World) → IsWorld w → (walked : Walked) → IsRight w walked
    → (call : Call) → IsIn call walked.wanted → IsWellFormed call

-- A walk that is right is formed.
abbrev pub RightIsFormed : Type 0
RightIsFormed =
    (w : World) → IsWorld w → (walked : Walked) → IsRight w walked
    → IsFormed w walked

-- ---- what was looked at

-- What is counted are looks at different nodes that may be looked at, and no outcome is looked for that needn't be.
abbrev pub LooksAreOfNodes : Type 0
LooksAreOfNodes = (w : World) (walked : Walked) → IsRight w walked → HasLookedAt w walked

-- Once the root has a view, all were looked at that may be.
abbrev pub AllIsLookedAt : Type 0
AllIsLookedAt =
    (w : World) (walked : Walked) → IsRight w walked
    → IsPlacedIn walked.root walked.done walked.result
    → (view : View) → walked.result ≡ Some (Answer view) → AllAreLookedAt w walked

-- ---- what is told

-- Once what a walk tells is kept, all that is kept of nodes is known.
abbrev pub ToldIsKnown : Type 0
ToldIsKnown =
    (w : World) (walked : Walked) → IsRight w walked
    → Knows w.graph w.sources w.outcomes (records_with walked.fresh walked.renewed w.records)
