-- What follows of calls that were run and kept.
use Rattle.std.specs.Prelude.{◌≡◌, ◌≢◌, ℕ, List, [], Some, IsSome}
use Rattle.object_values.specs.declared.facts.Fact.{Fact}
use Rattle.object_values.specs.declared.nodes.Node.{Node}
use Rattle.object_values.specs.declared.views.View.{View}
use Rattle.object_values.specs.declared.calls.Call.{Call}
use Rattle.odin_outside.specs.Disk.{Telling}
use Rattle.odin_outside.specs.Spawned.{Table}
use Rattle.meaning_texts.specs.Lists.{IsIn}
use Rattle.meaning_graph.specs.Graphs.{Graph}
use Rattle.meaning_derive.specs.Derive.{Outcomes, derived}
use Rattle.meaning_derive.specs.Calls.{IsCallFrom}
use Rattle.meaning_derive.specs.Given.{table_outcomes}
use Rattle.meaning_derive.specs.Laws.{HasMore}
use Rattle.meaning_records.specs.Tables.{Calls}
use Rattle.derive_walk.specs.declared.found.Found.{Found}
use Rattle.derive_walk.specs.declared.found.Found.TheVariants.{Answer}
use Rattle.derive_walk.specs.Founds.{IsFound}
use Rattle.derive_walk.specs.Outcomes.{after}
use Rattle.plain_derive.specs.Given.{calls_of}
use Rattle.plain_derive.specs.GivenLaws.{AreNew}
use Rattle.plain_derive.specs.Flights.{Course, off_course, for_spawn}
use Rattle.kept_derive.specs.Knowing.{known_in, KnowsStore}
use Rattle.kept_derive.specs.Runs.{At, HasRun, HasFound}

-- Nothing was run, and no tool touched: none was refused.
pub record IsSpared {Disk : Type 0} (course : Course) (old : At Disk) (given : Calls) (new : At Disk) : Type 0 where
  pub none : given ≡ []
  pub told : new.tools ≡ old.tools
  pub unrefused : course ≢ off_course for_spawn

module _ {Disk : Type 0} (told : Disk → Telling) where
  -- ---- the calls that are run

  -- The calls that were run were not kept, and each was run once; they are the node's, whatever else is known; and just they are kept
  -- more. The sources stay.
  pub record AreRunNew (g : Graph) (n : Node) (old : At Disk) (given : Calls) (now : At Disk) : Type 0 where
    pub new : AreNew (known_in old.store) given
    pub each : (outcomes : Outcomes) → HasMore (known_in now.store) outcomes → (call : Call) → IsIn call (calls_of given) → IsCallFrom g (derived g old.store.sources.texts outcomes) n call
    pub known : known_in now.store ≡ after (known_in old.store) given
    pub sources : now.store.sources.texts ≡ old.store.sources.texts

  abbrev pub RunsAreNew : Type 0
  RunsAreNew =
      (g : Graph) (n : Node) (limit : ℕ) (course : Course) (old : At Disk) (given : Calls) (noted : List Fact) (new : At Disk)
      → HasRun told g n limit course old given noted new → AreRunNew g n old given new

  -- Where the node is answered all its calls are kept.
  abbrev pub AllAreKept : Type 0
  AllAreKept =
      (g : Graph) (n : Node) (limit : ℕ) (old new : At Disk) (view : View) → KnowsStore g old.store → HasFound told g n limit old new (Answer view)
      → (call : Call) → IsCallFrom g (derived g old.store.sources.texts (known_in new.store)) n call → IsSome (known_in new.store call)

  -- Once a node is found nothing is run for it again, from the same sources, whatever else is kept by then, and however many may run.
  abbrev pub NoneIsRunAgain : Type 0
  NoneIsRunAgain =
      (g : Graph) (n : Node) (limit : ℕ) (old new : At Disk) (found : Found) → KnowsStore g old.store → HasFound told g n limit old new found
      → (again : At Disk) → again.store.sources.texts ≡ old.store.sources.texts → HasMore (known_in new.store) (known_in again.store)
      → (most : ℕ) (course : Course) (given : Calls) (noted : List Fact) (later : At Disk) → HasRun told g n most course again given noted later → IsSpared course again given later

  -- And its answer is the same.
  abbrev pub AnswerStays : Type 0
  AnswerStays =
      (g : Graph) (n : Node) (limit : ℕ) (old new : At Disk) (view : View) → KnowsStore g old.store → HasFound told g n limit old new (Answer view)
      → (again : At Disk) → again.store.sources.texts ≡ old.store.sources.texts → HasMore (known_in new.store) (known_in again.store)
      → (most : ℕ) (later : At Disk) (found : Found) → KnowsStore g again.store → HasFound told g n most again later found → found ≡ Answer view

  -- ---- tools that answer by a table

  -- Where the tools answer by a table and what is kept is true for it, what is kept afterwards is.
  abbrev pub RunsAreTrue : Type 0
  RunsAreTrue =
      (table : Table) (g : Graph) (n : Node) (limit : ℕ) (course : Course) (old : At Disk) (given : Calls) (noted : List Fact) (new : At Disk)
      → old.tools.answer ≡ Some table → HasMore (known_in old.store) (table_outcomes table)
      → HasRun told g n limit course old given noted new → HasMore (known_in new.store) (table_outcomes table)

  -- And what is found is found by the table.
  abbrev pub FoundIsTrue : Type 0
  FoundIsTrue =
      (table : Table) (g : Graph) (n : Node) (limit : ℕ) (old new : At Disk) (found : Found)
      → old.tools.answer ≡ Some table → HasMore (known_in old.store) (table_outcomes table)
      → KnowsStore g old.store → HasFound told g n limit old new found → IsFound g old.store.sources.texts (table_outcomes table) n found
